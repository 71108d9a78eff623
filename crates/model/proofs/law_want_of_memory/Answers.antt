use Rattle.model.proofs.Memories.{want_of_memory}
use Rattle.model.proofs.law_want_of_memory.Goals as goal

pub returns : goal.returns
returns c = record { law = want_of_memory }
