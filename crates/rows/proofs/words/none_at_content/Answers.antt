use Rattle.std.proofs.Common.{refl}
use Rattle.style.specs.declared.result.WriteResult.TheVariants.{SensitiveNothing}
use Rattle.model.specs.Calls.{val_none}
use Rattle.engine.specs.Memory.{mem}
use Rattle.engine.proofs.Telling.{well_formed_none}
use Rattle.rows.proofs.Wording.{content_silent}
use Rattle.rows.proofs.words.none_at_content.Goals as goal

pub returns : goal.returns
returns c =
    record { does = λ room texts at. content_silent val_none room (mem c.args.core.now) (mem c.settle.new.self) c.requires.safe well_formed_none refl texts at refl refl refl refl SensitiveNothing (λ rs l ls. refl) c.settle.ensures.memory }
