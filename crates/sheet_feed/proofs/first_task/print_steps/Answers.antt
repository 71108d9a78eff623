use Rattle.std.proofs.Common.{◌≡◌, ◌++◌, length, ◌⊎◌, inl, inr, ⊎_elim, ap, ◌∙◌, sym, subst}
use Rattle.std.proofs.lemmas.List.{append-nil}
use Rattle.std.specs.Io.KnownBytes.{Appends}
use Rattle.runner.specs.Printing.{ended}
use Rattle.runner.proofs.Lines.{appends_then}
use Rattle.sheet_feed.specs.FirstTask.{step_told, steps_told}
use Rattle.sheet_feed.proofs.Steps.{texts, steps_next, steps_done}
use Rattle.sheet_feed.proofs.first_task.print_steps.Goals as goal

pub loop-text-preserved : goal.loop-text-preserved
loop-text-preserved g c =
    let held = g.O.Outlet.contents in
    let l = c.loop-text in
    let rest = l.text-iterator in
    let left = c.next.new.self in
    let call = c.in-Some.text.now in
    let answer = c.in-Some.answer.now in
    let line = ended (step_told call.now answer) in
    let step = c.in-Some.ensures.steps in (
      l.invariant.0 ++ line,
      appends_then (held c.args.out.now) (held l.out) (held c.print_step.new.out) l.invariant.0 line l.invariant.1 c.in_ok-print_step.ensures.told,
      steps_next l.invariant.0 (steps_told (texts c.args.calls.now) c.args.answers.now) rest.a.rest.now left.a.rest.now rest.b.rest.now left.b.rest.now call answer step.0 step.1 l.invariant.2,
    )

pub returns-clause-told : goal.returns-clause-told
returns-clause-told g c =
    let l = c.loop-text in
    let xs = l.text-iterator.a.rest.now in
    let ys = l.text-iterator.b.rest.now in
    let ends : (length xs ≡ 0) ⊎ (length ys ≡ 0) = ⊎_elim (λ p. inl p.1.0) (λ p. inr p.1.0) c.in-None.ensures.steps in
    let all = sym (append-nil l.invariant.0) ∙ ap (λ z. l.invariant.0 ++ z) (sym (steps_done xs ys ends)) ∙ l.invariant.2 in
    subst (λ z. Appends (g.O.Outlet.contents c.args.out.now) (g.O.Outlet.contents l.out) z) all l.invariant.1
