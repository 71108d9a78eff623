-- How the lines of a script fall into the sections of its writers, and what a section says of its writer. Assumes nothing.
use Rattle.std.specs.Prelude.{◌≡◌, ◌≢◌, ℕ, Bool, false, ◌||◌, List, [], ◌∷◌, ◌++◌, map, flat_map, Some, None, Option, vec_items}
use Rattle.xml.specs.declared.escape.QuoteLevel.{QuoteLevel}
use Rattle.script.specs.declared.line.Line.{Line}
use Rattle.script.specs.declared.line.Numbered.{Numbered}
use Rattle.script.specs.declared.order.Role.{Role}
use Rattle.script.specs.declared.order.Role.TheVariants.{Starts, Sets, Anywhere, Calls}
use Rattle.script.specs.Order.{role}
use Rattle.feed.specs.declared.call_line.CallLine.{CallLine}
use Rattle.feed.specs.declared.setup.Setup.{Setup}
use Rattle.feed.specs.declared.batch.Batch.{Batch}
use Rattle.feed.specs.Setups.{defaults, setup_after, setup_after_all, Each, GoesOn}
use Rattle.feed.specs.Batches.{says_something}

-- the lines of one writer: the `new` that begins it, if it is not the writer at the start, and those behind
pub record Section : Type 0 where
  pub opening : Option Numbered
  pub said : List Numbered

abbrev pub opening_lines : Option Numbered → List Numbered
opening_lines None = []
opening_lines (Some n) = n ∷ []

abbrev pub lines_of : Section → List Numbered
lines_of s = opening_lines s.opening ++ s.said

-- a section behind another begins with a `new`, and has no other
abbrev pub OpensWith : Option Numbered → Type 0
OpensWith None = ⊥
OpensWith (Some n) = role n.line ≡ Starts

abbrev pub IsLater : Section → Type 0
IsLater s = OpensWith s.opening × Each GoesOn s.said

-- one section after another; the first has no `new`
abbrev pub InOrder : List Section → Type 0
InOrder [] = ⊥
InOrder (s ∷ ss) = (s.opening ≡ None) × Each GoesOn s.said × Each IsLater ss

-- all these lines, and no others, stand in the sections
abbrev pub FallInto : List Numbered → List Section → Type 0
FallInto ns ss = InOrder ss × (flat_map lines_of ss ≡ ns)

-- lines fall into sections in one way only
abbrev pub InOneWay : Type 0
InOneWay = (ns : List Numbered) (ss ts : List Section) → FallInto ns ss → FallInto ns ts → ss ≡ ts

-- the line where the writer begins
abbrev pub first_of : Option Numbered → ℕ
first_of None = 1
first_of (Some n) = n.number

abbrev pub called : {A : Type 0} → Role → A → List A → List A
called Starts x xs = xs
called Sets x xs = xs
called Anywhere x xs = xs
called Calls x xs = x ∷ xs

-- the calls among these lines, each with its number and the escaping rule that holds there
abbrev pub calls_among : Setup → List Numbered → List (ℕ × Line × QuoteLevel)
calls_among s [] = []
calls_among s (n ∷ ns) = called (role n.line) (n.number, n.line, s.level) (calls_among (setup_after s n.number n.line) ns)

-- a call stands between those of the lines before and behind it, with its number and the rule that holds after the lines before it; any other line adds none
abbrev pub CallsInOrder : Type 0
CallsInOrder =
    (s : Setup) (front rest : List Numbered) (n : Numbered) →
    (role n.line ≡ Calls → calls_among s (front ++ n ∷ rest) ≡ calls_among s front ++ (n.number, n.line, (setup_after_all s front).level) ∷ calls_among (setup_after_all s front) rest)
    × (role n.line ≢ Calls → calls_among s (front ++ n ∷ rest) ≡ calls_among s front ++ calls_among (setup_after_all s (front ++ n ∷ [])) rest)

abbrev pub any_says : List Numbered → Bool
any_says [] = false
any_says (n ∷ ns) = says_something n.line || any_says ns

-- a trace tells of each writer that a `new` begins, and of that at the start where a line says something
abbrev pub is_reported : Section → Bool
is_reported s = any_says (lines_of s)

abbrev pub shown : CallLine → ℕ × Line × QuoteLevel
shown c = (c.number, c.line, c.level)

-- the batch has the settings and the calls that the lines of the section give
pub record IsBatchOf (s : Section) (b : Batch) : Type 0 where
  pub setup : b.setup ≡ setup_after_all (defaults (first_of s.opening)) s.said
  pub calls : map shown (vec_items b.calls) ≡ calls_among (defaults (first_of s.opening)) s.said
  pub reports : b.reported ≡ is_reported s

-- the section that a script begins with
abbrev pub at_start : Section
at_start = record { opening = None; said = [] }

-- the section that a `new` begins
abbrev pub opened : Numbered → Section
opened n = record { opening = Some n; said = [] }

-- the section with one line more
abbrev pub longer : Section → Numbered → Section
longer s n = record { opening = s.opening; said = s.said ++ n ∷ [] }

-- a line belongs to the section of the writer at work, or is a `new`: then the batch of that writer is handed out, and the next section begins
abbrev pub Extends : Option Batch → Batch → Numbered → Batch → Type 0
Extends None old n new = GoesOn n × ((s : Section) → IsBatchOf s old → IsBatchOf (longer s n) new)
Extends (Some done) old n new = (role n.line ≡ Starts) × (done ≡ old) × IsBatchOf (opened n) new
