use Rattle.std.proofs.Common.{ap}
use Rattle.engine.specs.Memory.{mem}
use Rattle.nests.proofs.Rowing.{content_row_opens}
use Rattle.nests.proofs.rows.row_at_content.Goals as goal

pub returns : goal.returns
returns c =
    let pushes = rw c.content_row-frame.ensures.value at c.take_frame.ensures.pushes in
    record { does = λ room texts at. content_row_opens room (mem c.args.core.now) (mem c.take_frame.new.core) c.take_frame.result c.requires.safe texts c.top.result.flag at (ap (λ f. f.flag) c.top.ensures.value) pushes }
