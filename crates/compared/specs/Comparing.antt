-- The lines of the input, each an answer or a line of a sheet, and the tally of all answers. Assumes nothing.
use Rattle.std.specs.Prelude.{◌≡◌, ◌⊎◌, ℕ, ◌+◌, ◌-◌, ◌^◌, ◌<◌, ◌==◌, ◌||◌, Bool, true, List, [], ◌∷◌, ◌++◌, length, codes, None, Option, if◌then◌else◌}
use Rattle.std.specs.List.{starts_with}
use Rattle.std.specs.Str.Lines.{lines}
use Rattle.script.specs.declared.line.Line.{Line}
use Rattle.script.specs.declared.line.Numbered.{Numbered}
use Rattle.script.specs.Says.{Says}
use Rattle.feed.specs.declared.batch.Batch.{Batch}
use Rattle.feed.specs.Sections.{Section, FallInto, IsBatchOf, Extends}
use Rattle.compared.specs.declared.tally.Tally.{Tally}
use Rattle.compared.specs.Replaying.{HoldsNone, Judged}

-- the sheet after these lines is the last of the sections that they fall into
pub record IsSheetAfter (said : List Numbered) (sheet : Batch) : Type 0 where
  pub done : List Section
  pub last : Section
  pub falls : FallInto said (done ++ last ∷ [])
  pub batch : IsBatchOf last sheet

-- line k, text, behind the lines of sheets that are said, holds an answer, which is judged by the sheet after those
abbrev pub Answers : ℕ → List ℕ → List Numbered → Tally → Tally → Type 0
Answers k text said t t' = (sheet : Batch) × IsSheetAfter said sheet × Judged sheet k text true t t'

-- these lines, numbered on from k, behind the lines of sheets that are said, lead from one tally to another: each is an answer, or it is said as well
abbrev pub Leads : ℕ → List (List ℕ) → List Numbered → Tally → Tally → Type 0
Leads k [] said t t' = t' ≡ t
Leads k (text ∷ texts) said t t' =
    ((u : Tally) × Answers k text said t u × Leads (k + 1) texts said u t')
    ⊎ ((line : Line) × HoldsNone text × Says line text × Leads (k + 1) texts (said ++ record { number = k; line = line } ∷ []) t t')

-- no answer is counted, and none is wrong
abbrev pub none_judged : Tally
none_judged = record {
  records = record { right = 0; all = 0 };
  refusals = record { right = 0; all = 0 };
  differences = record { right = 0; all = 0 };
  wrong = None;
}

-- the tally of all lines of the input, which are numbered from 0 on
abbrev pub Compares : List ℕ → Tally → Type 0
Compares sheets t = Leads 0 (lines sheets) [] none_judged t

-- the line holds an answer, behind one mark or the other
abbrev pub holds_answer : List ℕ → Bool
holds_answer text = starts_with ◌==◌ text (codes "#= ") || starts_with ◌==◌ text (codes "#! ")

-- how many of these lines do
abbrev pub answers_in : List (List ℕ) → ℕ
answers_in [] = 0
answers_in (text ∷ texts) = if holds_answer text then answers_in texts + 1 else answers_in texts

-- how many answers are counted
abbrev pub counted_in : Tally → ℕ
counted_in t = t.records.all + (t.refusals.all + t.differences.all)

-- each line with an answer is counted once, and no other line is
abbrev pub CountsEachOnce : List ℕ → Tally → Type 0
CountsEachOnce sheets t = length (lines sheets) < 2 ^ 64 - 1 → counted_in t ≡ answers_in (lines sheets)

-- line k is judged by the batch before it, or is taken into the batch
abbrev pub TakesLine : ℕ → List ℕ → Batch → Batch → Tally → Tally → Type 0
TakesLine k text b b' t t' =
    ((b' ≡ b) × Judged b k text true t t')
    ⊎ ((t' ≡ t) × HoldsNone text × (line : Line) × (done : Option Batch) × Says line text × Extends done b (record { number = k; line = line }) b')
