use Rattle.model.proofs.Memories.{memory_suffices}
use Rattle.model.proofs.law_memory_suffices.Goals as goal

pub returns : goal.returns
returns c = record { law = memory_suffices }
