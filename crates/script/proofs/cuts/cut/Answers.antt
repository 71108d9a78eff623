use Rattle.std.proofs.Common.{◌+◌, Some, sym, ap, ◌∙◌, rules}
use Rattle.std.proofs.lemmas.List.{take_rest}
use Rattle.script.proofs.Cutting.{cut_here, cut_nowhere}
use Rattle.script.proofs.cuts.cut.Goals as goal

pub returns-in-Some : goal.returns-in-Some
returns-in-Some c =
    let text = c.args.text.now in
    let found = cut_here c.args.at text c.in-Some.i (search rules) (search rules) (search rules) in
    record { front = sym found.0; back = ap Some (take_rest text (c.in-Some.i + 1)) ∙ sym found.1 }

pub returns-in-None : goal.returns-in-None
returns-in-None c =
    let found = cut_nowhere c.args.at c.args.text.now (search rules) in
    record { front = sym found.0; back = sym found.1 }
