use Rattle.std.proofs.Common.{◌≡◌, rules}
use Rattle.model.specs.declared.place.Place.TheVariants.{Idle}
use Rattle.engine.specs.Memory.{mem}
use Rattle.rows.proofs.Rooting.{abandon_told}
use Rattle.rows.proofs.roots.abandon.Goals as goal

pub returns : goal.returns
returns c =
    let busy : c.args.core.now.place ≡ Idle → ⊥ = search rules in
    record { does = λ room. abandon_told room (mem c.args.core.now) (mem c.clear.new.self) c.requires busy c.clear.ensures.memory }
