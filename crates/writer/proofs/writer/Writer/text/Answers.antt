use Rattle.std.proofs.Common.{refl}
use Rattle.model.specs.Calls.{val_text}
use Rattle.writer.proofs.writer.Writer.text.Goals as goal

pub returns : goal.returns
returns g c = record { does = λ room ρ same. c.value.ensures.does room (val_text ρ c.args.text.now) (ρ, same, refl) }
