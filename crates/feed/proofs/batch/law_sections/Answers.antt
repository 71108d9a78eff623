use Rattle.feed.proofs.Falling.{in_one_way}
use Rattle.feed.proofs.Sections.{calls_in_order}
use Rattle.feed.proofs.batch.law_sections.Goals as goal

pub returns : goal.returns
returns c = record { one_way = in_one_way; calls = calls_in_order }
