use Rattle.model.proofs.Examples.{readings}
use Rattle.model.proofs.law_readings.Goals as goal

pub returns : goal.returns
returns c = record { law = readings }
