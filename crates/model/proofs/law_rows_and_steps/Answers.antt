use Rattle.model.proofs.Taken.{rows_and_steps}
use Rattle.model.proofs.law_rows_and_steps.Goals as goal

pub returns : goal.returns
returns c = record { law = rows_and_steps }
