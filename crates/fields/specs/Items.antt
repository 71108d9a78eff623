-- What a step that writes an item of a list that is a text answers. Assumes nothing.
use Rattle.std.specs.Prelude.{◌≡◌, ℕ, ◌+◌, ◌<◌, ◌≤◌, true, List, length, Ok, Err, Result}
use Rattle.refusal.specs.declared.Refusal.{Refusal}
use Rattle.refusal.specs.declared.Refusal.TheVariants.{Stage}
use Rattle.model.specs.declared.place.Place.TheVariants.{TextItem}
use Rattle.engine.specs.Memory.{Mem, appended, worded, placed}

-- the bytes are written behind the stage, and the next item has one before it; or they do not fit, and nothing has changed
abbrev pub Adds : Result (Unit {0}) Refusal → List ℕ → Mem → Mem → Type 0
Adds (Ok x) bs w v = (w.stage.used + length bs ≤ length w.stage.all) × (v ≡ placed (TextItem true) (worded true (appended bs w)))
Adds (Err e) bs w v = (e ≡ Stage) × (v ≡ w) × (length w.stage.all < w.stage.used + length bs)
