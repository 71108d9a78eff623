-- The lines that tell what became of calls and sinks. Assumes nothing.
use Rattle.std.specs.Prelude.{ℕ, List, ◌++◌, Ok, Err, Result, codes, decimal}
use Rattle.hex.specs.Hex.{encode_lower}
use Rattle.refusal.specs.declared.Refusal.{Refusal}
use Rattle.refusal.specs.Refusals.{number, offset, shows}

-- as in `accepted` or `refused 5 12`
abbrev pub traced : Result (Unit {0}) Refusal → List ℕ
traced (Ok done) = codes "accepted"
traced (Err e) = codes "refused " ++ (decimal (number e) ++ (codes " " ++ decimal (offset e)))

-- as in `sink 14 65522`: the bytes held, and the room left
abbrev pub counted : ℕ → ℕ → List ℕ
counted held room = codes "sink " ++ (decimal held ++ (codes " " ++ decimal room))

-- as in `bytes 3c612f3e`, two small digits for each byte
abbrev pub bytes_told : List ℕ → List ℕ
bytes_told held = codes "bytes " ++ encode_lower held

-- as in `line 7: refusal 5 Name at 12`
abbrev pub told : ℕ → Refusal → List ℕ
told line e = codes "line " ++ (decimal line ++ (codes ": " ++ shows e))
