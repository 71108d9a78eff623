use Rattle.std.proofs.Common.{[], refl}
use Rattle.model.specs.Calls.{val_none}
use Rattle.engine.specs.Memory.{mem}
use Rattle.engine.proofs.Telling.{well_formed_none}
use Rattle.attributes.proofs.Valuing.{single_told}
use Rattle.attributes.proofs.values.none_at_attribute.Goals as goal

pub returns : goal.returns
returns c = record { does = λ room. single_told val_none room (mem c.args.core.now) (mem c.insert.new.core) c.insert.result [] c.requires.place well_formed_none refl refl (λ k. refl) c.requires.safe c.insert.ensures.inserts }
