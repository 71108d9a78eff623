use Rattle.model.proofs.Tables.{answers_by_the_table}
use Rattle.model.proofs.law_answers_by_the_table.Goals as goal

pub returns : goal.returns
returns c = record { law = answers_by_the_table }
