use Rattle.model.proofs.Documents.{indents_alone}
use Rattle.model.proofs.law_indents_alone.Goals as goal

pub returns : goal.returns
returns c = record { law = indents_alone }
