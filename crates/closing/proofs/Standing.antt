-- What every memory that holds a model at the field place has, as numbers. Assumes nothing.
use Rattle.std.proofs.Common.{◌≡◌, ◌<◌, ◌≤◌, ◌++◌, ap, arith}
use Rattle.std.proofs.lemmas.List.{length-append}
use Rattle.model.specs.declared.place.Place.TheVariants.{Field}
use Rattle.model.specs.Model.{State}
use Rattle.engine.specs.Memory.{Mem, top_frame}
use Rattle.engine.specs.Lays.{Lays}
use Rattle.engine.proofs.Fronts.{front_length}
use Rattle.engine.proofs.Spots.{on_field}
use Rattle.closing.proofs.Ending.{top_level}

pub field_records : (m : State) (w : Mem) → Lays m w → w.place ≡ Field → 0 < w.records
field_records m w lay at = on_field (λ x. 0 < w.records) w m lay at (λ l ls y. omega (arith, y.holds.records))

pub field_name : (m : State) (w : Mem) → Lays m w → w.place ≡ Field → (top_frame w).from ≤ w.names.used
field_name m w lay at =
    on_field (λ x. (top_frame w).from ≤ w.names.used) w m lay at
    (λ l ls y. omega (arith, ap (λ f. f.from) (top_level w l ls y.holds), front_length w.names (l.under ++ l.name) y.holds.names, length-append l.under l.name))
