use Rattle.feed.proofs.Latest.{last_counts}
use Rattle.feed.proofs.setup.law_last_counts.Goals as goal

pub returns : goal.returns
returns c = record { law = last_counts }
