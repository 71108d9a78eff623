use Rattle.std.proofs.Common.{◌++◌, OnOk, vec_items, subst}
use Rattle.std.specs.Io.KnownBytes.{Appends}
use Rattle.runner.specs.Printing.{ended}
use Rattle.sheet_feed.specs.FirstTask.{title, holding, steps_told}
use Rattle.sheet_feed.proofs.Steps.{texts, ok_then}
use Rattle.sheet_feed.proofs.first_task.print_ran.Goals as goal

pub returns-clause-told : goal.returns-clause-told
returns-clause-told g c =
    let held = g.O.Outlet.contents in
    let r = c.args.ran.now in
    let a = held c.args.out.now in
    let titled = held c.print_title.new.out in
    let stepped = held c.print_steps.new.out in
    let counted = held c.print_holding.new.out in
    let z = held c.print_bytes.new.out in
    let result = c.print_bytes.result in
    let steps = steps_told (texts c.args.calls.now) (vec_items r.answers) in
    let bytes = ended (vec_items r.bytes) in
    let told = subst (λ x. Appends titled stepped (steps_told (texts c.args.calls.now) x)) c.deref.ensures.value c.in_ok-print_steps.ensures.told in
    let last = subst (λ x. OnOk result (Appends counted z (ended x))) c.deref-2.ensures.value c.print_bytes.ensures.told in
    ok_then a titled z result (title c.args.style.now) (steps ++ (holding r ++ bytes)) c.in_ok-print_title.ensures.told (ok_then titled stepped z result steps (holding r ++ bytes) told (ok_then stepped counted z result (holding r) bytes c.in_ok-print_holding.ensures.told last))
