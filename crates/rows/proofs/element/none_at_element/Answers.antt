use Rattle.std.proofs.Common.{refl}
use Rattle.model.specs.Calls.{val_none}
use Rattle.engine.specs.Memory.{mem}
use Rattle.engine.proofs.Telling.{well_formed_none}
use Rattle.rows.proofs.Elemental.{element_empty}
use Rattle.rows.proofs.element.none_at_element.Goals as goal

pub returns : goal.returns
returns c =
    record { does = λ room. element_empty val_none room c.args.from (mem c.args.core.now) (mem c.write_empty.new.core) c.write_empty.result c.requires.place c.requires.safe well_formed_none refl refl (λ f d rs b u n. refl) c.write_empty.ensures.writes }
