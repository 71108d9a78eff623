use Rattle.std.proofs.Common.{rules}
use Rattle.xml.specs.Escaping.{Lawful}
use Rattle.xml.proofs.Written.{writes}
use Rattle.xml.proofs.escape.escape_into.Goals as goal

pub returns-then-fits : goal.returns-then-fits
returns-then-fits g c =
    let rule = c.args.rule.now in
    let u = c.args.target in
    let law : Lawful u (g.R.EscapeRule.chooses rule u) = record { within = g.met.R.EscapeRule.within rule u; enough = g.met.R.EscapeRule.enough rule u } in
    record { escapes = writes law c.args.value.now c.args.out.now c.args.at c.lay.result c.lay.new.out (search rules) (search rules) (search rules) }
