-- A record goes into a sink whole or not at all. Assumes nothing.
use Rattle.std.specs.Prelude.{◌≡◌, ◌≢◌, ℕ, ◌⊎◌, List, length, min, Option, Ok, Err, Result}
use Rattle.refusal.specs.declared.Refusal.{Refusal}
use Rattle.style.specs.declared.indentation.Indentation.{Indentation}
use Rattle.style.specs.declared.style.EmptyElementHandling.{EmptyElementHandling}
use Rattle.reader.specs.Trees.{Bytes}
use Rattle.model.specs.Calls.{Call}
use Rattle.model.specs.Model.{State}
use Rattle.model.specs.Table.{Setting}
use Rattle.model.specs.Run.{Session, writer, answers, run, all_accepted}
use Rattle.engine.specs.Memory.{Mem}
use Rattle.engine.specs.Lays.{Lays, setting}
use Rattle.writer.specs.Served.{session}
use Rattle.writer.specs.Replayed.{Ran}

-- no call of them is refused
abbrev pub Accepted : Setting → List Call → Session → Type 0
Accepted w cs s = answers w cs s ≡ all_accepted cs

-- these calls, none of which hands anything to the sink: all of them have run, or one of them is refused
abbrev pub Filled : List Call → Result (Unit {0}) Refusal → Mem → Mem → Type 0
Filled cs (Ok done) w v = (m : State) (bs : Bytes) (k : ℕ) → Lays m w → Ran cs w v bs k bs k (all_accepted cs) m
Filled cs (Err e) w v = (m : State) (bs : Bytes) (k : ℕ) → Lays m w → answers (setting w) cs (session m bs k) ≢ all_accepted cs

-- the sink then holds bs and has room k: as the calls leave it where none of them is refused, and else as it was
abbrev pub Whole : Setting → List Call → Session → Bytes → ℕ → Type 0
Whole w cs s bs k =
    (Accepted w cs s × (bs ≡ (run w cs s).sink) × (k ≡ (run w cs s).room))
    ⊎ ((answers w cs s ≢ all_accepted cs) × (bs ≡ s.sink) × (k ≡ s.room))

-- a writer of this style over a stage and a name stack of so many bytes, and as many frames as it uses at most
abbrev pub over : EmptyElementHandling → Option Indentation → ℕ → ℕ → Setting
over form indentation stage names = writer form indentation (record { stage = min stage 65536; names = min names 4096; frames = 64 })

-- so many bytes of the sink that the calls leave
abbrev pub Leaves : Setting → List Call → Session → ℕ → Type 0
Leaves w cs s n = (bs : Bytes) × (k : ℕ) × Whole w cs s bs k × (n ≡ length bs)
