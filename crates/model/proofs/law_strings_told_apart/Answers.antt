use Rattle.model.proofs.Wholeness.{strings_told_apart}
use Rattle.model.proofs.law_strings_told_apart.Goals as goal

pub returns : goal.returns
returns c = record { law = strings_told_apart }
