use Rattle.script.proofs.Wording.{told_apart}
use Rattle.script.proofs.words.law_words_told_apart.Goals as goal

pub returns : goal.returns
returns c = record { law = told_apart }
