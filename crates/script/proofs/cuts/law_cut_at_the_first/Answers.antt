use Rattle.script.proofs.Cutting.{cut_at_the_first}
use Rattle.script.proofs.cuts.law_cut_at_the_first.Goals as goal

pub returns : goal.returns
returns c = record { law = cut_at_the_first }
