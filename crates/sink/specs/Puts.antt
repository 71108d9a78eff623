-- What a sink does with bytes: all of them are appended, or none where there is less room. Assumes nothing.
use Rattle.std.specs.Prelude.{◌≡◌, ℕ, ◌+◌, ◌<◌, List, ◌++◌, length, Ok, Err, Result}
use Rattle.refusal.specs.declared.Refusal.{Refusal}
use Rattle.refusal.specs.Refusals.{Refuses}
use Rattle.std.specs.Borrow.{MutBor}
use Rattle.memory.specs.Laid.{laid}

-- the answer to `bytes`, with what the sink held and its room before, and the same after
abbrev pub Puts : Result (Unit {0}) Refusal → List ℕ → List ℕ → ℕ → List ℕ → ℕ → Type 0
Puts (Ok done) bytes held room held' room' = (held' ≡ held ++ bytes) × (room' + length bytes ≡ room)
Puts (Err e) bytes held room held' room' = Refuses 9 0 e × (room < length bytes) × (held' ≡ held) × (room' ≡ room)

-- what becomes of all the memory behind a sink, of which `len` bytes were held: the bytes are laid down behind those,
-- and nothing else changes; refused, nothing does
abbrev pub Keeps : Result (Unit {0}) Refusal → List ℕ → List ℕ → ℕ → List ℕ → Type 0
Keeps (Ok done) bytes memory len memory' = memory' ≡ laid memory len bytes
Keeps (Err e) bytes memory len memory' = memory' ≡ memory

-- the same of lent memory, which stays the reference that was lent
abbrev pub KeepsLent : Result (Unit {0}) Refusal → List ℕ → MutBor (List ℕ) → ℕ → MutBor (List ℕ) → Type 0
KeepsLent r bytes b len c = Keeps r bytes b.now len c.now × (c.ghost_name ≡ b.ghost_name)
