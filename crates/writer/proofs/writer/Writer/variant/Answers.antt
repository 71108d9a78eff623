use Rattle.std.proofs.Common.{refl}
use Rattle.model.specs.Calls.{val_variant}
use Rattle.writer.proofs.writer.Writer.variant.Goals as goal

pub returns : goal.returns
returns g c = record { does = λ room ρ same. c.value.ensures.does room (val_variant ρ c.args.name.now) (ρ, same, refl) }
