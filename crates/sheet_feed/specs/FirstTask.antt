-- What is shown of the built-in record. Assumes nothing.
use Rattle.std.specs.Prelude.{◌≡◌, ℕ, ◌+◌, List, [], ◌∷◌, ◌++◌, length, Option, Ok, Err, Result, codes, decimal, vec_items}
use Rattle.std.specs.Io.KnownBytes.{Appends}
use Rattle.refusal.specs.declared.Refusal.{Refusal}
use Rattle.refusal.specs.Refusals.{shows}
use Rattle.script.specs.declared.line.Line.{Line}
use Rattle.script.specs.Says.{Says}
use Rattle.feed.specs.declared.batch.Batch.{Batch}
use Rattle.feed.specs.Sections.{IsBatchOf, at_start, Extends}
use Rattle.runner.specs.declared.running.Ran.{Ran}
use Rattle.runner.specs.declared.stop.Stop.{Stop}
use Rattle.runner.specs.declared.stop.Stop.TheVariants.{Script, Io}
use Rattle.runner.specs.Running.{Becomes}
use Rattle.runner.specs.Printing.{ended}

-- line k is read and taken into the batch
abbrev pub TakesOne : ℕ → List ℕ → Batch → Batch → Type 0
TakesOne k text b c = (l : Line) × (done : Option Batch) × Says l text × Extends done b (record { number = k; line = l }) c

-- the batch c after these lines are taken into b, numbered on from k
abbrev pub Takes : ℕ → List (List ℕ) → Batch → Batch → Type 0
Takes k [] b c = c ≡ b
Takes k (t ∷ ts) b c = (m : Batch) × TakesOne k t b m × Takes (k + 1) ts m c

-- the batch that a script has after these lines
abbrev pub IsBatchOfLines : List (List ℕ) → Batch → Type 0
IsBatchOfLines lines b = (first : Batch) × IsBatchOf at_start first × Takes 0 lines first b

-- as in `  open sheet: accepted` or `  field trail name: refusal 5 Name at 5`
abbrev pub step_told : List ℕ → Result (Unit {0}) Refusal → List ℕ
step_told call (Ok done) = codes "  " ++ (call ++ codes ": accepted")
step_told call (Err e) = codes "  " ++ (call ++ (codes ": " ++ shows e))

-- each call with its answer
abbrev pub steps_told : List (List ℕ) → List (Result (Unit {0}) Refusal) → List ℕ
steps_told (c ∷ cs) (r ∷ rs) = ended (step_told c r) ++ steps_told cs rs
steps_told cs rs = []

abbrev pub title : List ℕ → List ℕ
title style = ended (codes "A record of a map sheet, in the style `" ++ (style ++ codes "`:"))

-- as in `The sink holds 373 bytes and has room for 65163:`
abbrev pub holding : Ran → List ℕ
holding r = ended (codes "The sink holds " ++ (decimal (length (vec_items r.bytes)) ++ (codes " bytes and has room for " ++ (decimal r.room ++ codes ":"))))

-- the style, each call with its answer, what the sink holds, and the XML last; nothing where the style is refused
abbrev pub page : List ℕ → List (List ℕ) → Result Ran Refusal → List ℕ
page style calls (Ok r) = title style ++ (steps_told calls (vec_items r.answers) ++ (holding r ++ ended (vec_items r.bytes)))
page style calls (Err e) = []

-- what is shown of these lines; nothing where they cannot be taken or run
abbrev pub Shows : List ℕ → List (List ℕ) → Result (Unit {0}) Stop → Option (List ℕ) → Option (List ℕ) → Type 0
Shows style calls (Ok done) old new = (b : Batch) × (r : Result Ran Refusal) × IsBatchOfLines (style ∷ calls) b × Becomes b r × Appends old new (page style calls r)
Shows style calls (Err (Script e)) old new = Appends old new []
Shows style calls (Err (Io e)) old new = Unit {0}
