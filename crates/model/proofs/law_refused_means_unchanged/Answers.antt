use Rattle.model.proofs.Tables.{refused_means_unchanged}
use Rattle.model.proofs.law_refused_means_unchanged.Goals as goal

pub returns : goal.returns
returns c = record { law = refused_means_unchanged }
