use Rattle.xml.proofs.Marking.{may_be}
use Rattle.xml.proofs.chosen.Chosen.may_have.Goals as goal

pub returns : goal.returns
returns c = record { otherwise = may_be c.args.self.bits c.args.byte }
