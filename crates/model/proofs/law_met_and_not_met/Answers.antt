use Rattle.model.proofs.Examples.{met_and_not_met}
use Rattle.model.proofs.law_met_and_not_met.Goals as goal

pub returns : goal.returns
returns c = record { law = met_and_not_met }
