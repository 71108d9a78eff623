use Rattle.script.proofs.Ordering.{set_up_first}
use Rattle.script.proofs.order.law_set_up_first.Goals as goal

pub returns : goal.returns
returns c = record { law = set_up_first }
