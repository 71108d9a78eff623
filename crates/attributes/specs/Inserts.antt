-- What a step that puts bytes in at the end of an open tag answers. Assumes nothing.
use Rattle.std.specs.Prelude.{◌≡◌, ℕ, ◌+◌, ◌<◌, ◌≤◌, List, length, Ok, Err, Result}
use Rattle.refusal.specs.declared.Refusal.{Refusal}
use Rattle.refusal.specs.declared.Refusal.TheVariants.{Stage}
use Rattle.model.specs.declared.place.Place.{Place}
use Rattle.engine.specs.Memory.{Mem, in_tag, placed}

-- bytes stand at the end of the tag whose frame is at k, and the next call goes to the place; or they do not fit, and nothing has changed
abbrev pub Inserts : Result (Unit {0}) Refusal → ℕ → List ℕ → Place → Mem → Mem → Type 0
Inserts (Ok x) k bs p w v = (w.stage.used + length bs ≤ length w.stage.all) × (v ≡ placed p (in_tag k bs w))
Inserts (Err e) k bs p w v = (e ≡ Stage) × (v ≡ w) × (length w.stage.all < w.stage.used + length bs)
