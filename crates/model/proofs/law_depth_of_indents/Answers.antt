use Rattle.model.proofs.Depths.{depth_of_indents}
use Rattle.model.proofs.law_depth_of_indents.Goals as goal

pub returns : goal.returns
returns c = record { law = depth_of_indents }
