-- Numbers that hold at the field place, whatever the model. Assumes nothing.
use Rattle.std.proofs.Common.{◌≡◌, ◌-◌, ◌<◌, ◌≤◌, [], arith}
use Rattle.model.specs.declared.place.Place.TheVariants.{Field}
use Rattle.model.specs.Model.{State}
use Rattle.engine.specs.Memory.{Mem, top_frame}
use Rattle.engine.specs.Lays.{Lays}
use Rattle.engine.proofs.Spots.{on_field}
use Rattle.engine.proofs.Tags.{tag_low}
use Rattle.fields.proofs.AttributeKeys.{field_open, last_frame}

-- a record is open
pub field_deep : (m : State) (w : Mem) → Lays m w → w.place ≡ Field → 0 < w.frames.used
field_deep m w lay at = on_field (λ x. 0 < w.frames.used) w m lay at (λ l ls y. omega (arith, last_frame l ls w y.holds))

-- its tag ends where something is written
pub field_tag : (m : State) (w : Mem) → Lays m w → w.place ≡ Field → (top_frame w).tag ≤ w.stage.used
field_tag m w lay at =
    on_field (λ x. (top_frame w).tag ≤ w.stage.used) w m lay at
    (λ l ls y. tag_low w l ls [] [] (w.frames.used - 1) (omega (arith, last_frame l ls w y.holds)) (field_open l ls w y.holds))
