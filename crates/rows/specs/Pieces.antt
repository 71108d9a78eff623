-- The bytes of whole elements as the writer's memory gives them, and what a step that writes them answers. Assumes nothing.
use Rattle.std.specs.Prelude.{◌≡◌, ℕ, ◌+◌, ◌<◌, ◌≤◌, Bool, List, ◌++◌, length, Ok, Err, codes, Result}
use Rattle.refusal.specs.declared.Refusal.{Refusal}
use Rattle.refusal.specs.declared.Refusal.TheVariants.{Stage}
use Rattle.style.specs.declared.result.WriteResult.{WriteResult}
use Rattle.model.specs.Marks.{shut}
use Rattle.engine.specs.Memory.{Mem, lead_among, name_at, appended, worded, settled}

-- the `<` of a child's tag, with its indent
abbrev pub lead_of : Mem → List ℕ
lead_of w = lead_among w w.records

-- the name on top of the name stack
abbrev pub name_of : Mem → ℕ → List ℕ
name_of w from = name_at w from w.names.used

-- an empty element of this name
abbrev pub empty_bytes : Mem → List ℕ → List ℕ
empty_bytes w n = lead_of w ++ (n ++ shut w.form n)

abbrev pub open_bytes : Mem → List ℕ → List ℕ
open_bytes w n = lead_of w ++ (n ++ codes ">")

abbrev pub close_bytes : List ℕ → List ℕ
close_bytes n = codes "</" ++ (n ++ codes ">")

-- an element around a text
abbrev pub text_bytes : Mem → List ℕ → List ℕ → List ℕ
text_bytes w n s = open_bytes w n ++ (s ++ close_bytes n)

-- the bytes are written behind the stage, and a value with this result is complete; or they do not fit, and nothing has changed
abbrev pub Writes : Result (Unit {0}) Refusal → List ℕ → WriteResult → Bool → Mem → Mem → Type 0
Writes (Ok x) bs r t w v = (w.stage.used + length bs ≤ length w.stage.all) × (v ≡ settled r (worded t (appended bs w)))
Writes (Err e) bs r t w v = (e ≡ Stage) × (v ≡ w) × (length w.stage.all < w.stage.used + length bs)
