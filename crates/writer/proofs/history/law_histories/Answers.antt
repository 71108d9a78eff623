use Rattle.writer.proofs.Histories.{history_begins, history_grows, history_grows_aside, laws_of}
use Rattle.writer.proofs.Replaying.{history_begins_idle}
use Rattle.writer.proofs.history.law_histories.Goals as goal

pub returns : goal.returns
returns c = record { begins = history_begins; begins_idle = history_begins_idle; grows = history_grows; grows_aside = history_grows_aside; laws = laws_of }
