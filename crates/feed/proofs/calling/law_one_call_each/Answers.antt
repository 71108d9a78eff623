use Rattle.feed.proofs.Making.{calls_only, one_call_each}
use Rattle.feed.proofs.calling.law_one_call_each.Goals as goal

pub returns : goal.returns
returns c = record { only = calls_only; each = one_call_each }
