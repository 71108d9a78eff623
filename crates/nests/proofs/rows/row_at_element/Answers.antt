use Rattle.std.proofs.Common.{ap}
use Rattle.engine.specs.Memory.{mem}
use Rattle.nests.proofs.Rowing.{element_row}
use Rattle.nests.proofs.rows.row_at_element.Goals as goal

pub returns : goal.returns
returns c =
    let pushes = rw c.named_row-frame.ensures.value at c.take_frame.ensures.pushes in
    record { does = λ room. element_row room (mem c.args.core.now) (mem c.take_frame.new.core) c.take_frame.result c.requires.safe c.args.from c.top.result.flag c.requires.place (ap (λ f. f.flag) c.top.ensures.value) pushes }
