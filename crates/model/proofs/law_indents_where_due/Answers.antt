use Rattle.model.proofs.Flags.{indents_where_due}
use Rattle.model.proofs.law_indents_where_due.Goals as goal

pub returns : goal.returns
returns c = record { law = indents_where_due }
