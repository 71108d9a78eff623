use Rattle.engine.specs.Memory.{mem}
use Rattle.attributes.proofs.Valuing.{attribute_list}
use Rattle.attributes.proofs.values.row_at_attribute.Goals as goal

pub returns : goal.returns
returns c =
    let pushes = rw c.list.ensures.value at c.take_frame.ensures.pushes in
    record { does = λ room. attribute_list room (mem c.args.core.now) (mem c.take_frame.new.core) c.take_frame.result c.requires.safe c.requires.place pushes }
