use Rattle.std.proofs.Common.{vec_items, rules}
use Rattle.script.specs.Says.{Spoken}
use Rattle.script.proofs.Saying.{said}
use Rattle.script.proofs.line.read_line.Goals as goal

pub returns : goal.returns
returns c =
    let line = c.args.line.now in
    let word = c.in_ok-word.word in
    let bs = vec_items c.in_ok-argument.argument in
    let spoken : Spoken line word bs = record {
      begins = record { says = search rules; word = search rules; alone = search rules };
      argument = search rules;
    } in
    record { cases = said line word bs c.line_of.result spoken c.line_of.ensures.cases }
