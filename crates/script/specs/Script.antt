-- The lines of a script one after another, each with its number. Assumes nothing.
use Rattle.std.specs.Prelude.{◌≡◌, ℕ, ◌+◌, ◌^◌, ◌<◌, ◌⊎◌, List, [], length, Some, None, Ok, Err, Option, Result}
use Rattle.script.specs.declared.fault.Fault.{Fault}
use Rattle.script.specs.declared.fault.ScriptError.{ScriptError}
use Rattle.script.specs.declared.order.Phase.{Phase}
use Rattle.script.specs.declared.line.Line.{Line}
use Rattle.script.specs.declared.line.Numbered.{Numbered}
use Rattle.script.specs.Cuts.{first_line, later_lines}
use Rattle.script.specs.Says.{Says, Faulty}
use Rattle.script.specs.Order.{role, follows}

-- a line is at fault in itself, or where it stands
abbrev pub Stops : Fault → Phase → List ℕ → Type 0
Stops e p line = Faulty e line ⊎ ((l : Line) × Says l line × (follows p (role l) ≡ Err e))

-- how far a reader of a script has come: the bytes to read, the lines read, the phase of the writer
pub record Reader : Type 0 where
  pub rest : List ℕ
  pub read : ℕ
  pub phase : Phase

-- the lines read, and those of the bytes that are left, can be counted
abbrev pub Countable : Reader → Type 0
Countable r = r.read + length r.rest < 2 ^ 64

-- a reader whose lines can be counted, which every script is
pub record CountedReader : Type 0 where
  pub reader : Reader
  pub counts : Countable reader

-- one line further
pub record Further (old new : Reader) : Type 0 where
  pub some : 0 < length old.rest
  pub rest : new.rest ≡ later_lines old.rest
  pub read : new.read ≡ old.read + 1

-- what the next line gives: the end, a line, or an error, each with its number
abbrev pub Next : Result (Option Numbered) ScriptError → Reader → Reader → Type 0
Next (Ok None) old new = (old.rest ≡ []) × (new ≡ old)
Next (Ok (Some n)) old new =
    Further old new × (n.number ≡ old.read + 1) × Says n.line (first_line old.rest) × (follows old.phase (role n.line) ≡ Ok new.phase)
Next (Err e) old new = Further old new × (e.line ≡ old.read + 1) × Stops e.fault old.phase (first_line old.rest) × (new.phase ≡ old.phase)
