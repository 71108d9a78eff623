use Rattle.model.proofs.ReadsBack.{reads_back}
use Rattle.model.proofs.law_reads_back.Goals as goal

pub returns : goal.returns
returns c = record { law = reads_back }
