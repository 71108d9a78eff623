use Rattle.std.proofs.Common.{arith}
use Rattle.xml.proofs.Marking.{at_most}
use Rattle.xml.proofs.chosen.most.Goals as goal

pub returns : goal.returns
returns c = record { value = λ chosen. omega (arith, at_most chosen c.args.value.now) }
