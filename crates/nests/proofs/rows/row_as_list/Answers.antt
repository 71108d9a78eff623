use Rattle.engine.specs.Memory.{mem}
use Rattle.nests.proofs.Rowing.{row_is_list}
use Rattle.nests.proofs.rows.row_as_list.Goals as goal

pub returns : goal.returns
returns c =
    let pushes = rw c.list.ensures.value at c.take_frame.ensures.pushes in
    record { does = λ room. row_is_list room (mem c.args.core.now) (mem c.take_frame.new.core) c.take_frame.result c.requires.safe c.requires.place pushes }
