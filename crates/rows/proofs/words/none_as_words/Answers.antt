use Rattle.std.proofs.Common.{refl}
use Rattle.model.specs.Calls.{val_none}
use Rattle.engine.specs.Memory.{mem}
use Rattle.engine.proofs.Telling.{well_formed_none}
use Rattle.rows.proofs.Wording.{only_silent}
use Rattle.rows.proofs.words.none_as_words.Goals as goal

pub returns : goal.returns
returns c =
    record { does = λ room. only_silent val_none room (mem c.args.core.now) (mem c.settle.new.self) c.requires.safe well_formed_none refl c.requires.place refl (λ b. refl) (λ b. refl) c.settle.ensures.memory }
