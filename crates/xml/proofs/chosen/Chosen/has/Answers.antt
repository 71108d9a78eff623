use Rattle.xml.proofs.Marking.{bit_tests}
use Rattle.xml.proofs.chosen.Chosen.has.Goals as goal

pub returns-then-byte-lt64 : goal.returns-then-byte-lt64
returns-then-byte-lt64 c = record { value = bit_tests c.args.self.bits c.args.byte c.if-byte-lt64.true }
