-- What is answered to a sheet, in the words in which the crate's answers are kept. Assumes nothing.
use Rattle.std.specs.Prelude.{◌≡◌, ◌≢◌, ◌⊎◌, ◌++◌, ℕ, ◌==◌, ◌||◌, Bool, true, false, List, [], ◌∷◌, Some, None, Option, Ok, Err, Result, codes, vec_items, if◌then◌else◌}
use Rattle.refusal.specs.declared.Refusal.{Refusal}
use Rattle.refusal.specs.Refusals.{number}
use Rattle.feed.specs.declared.batch.Batch.{Batch}
use Rattle.feed.specs.Telling.{traced, bytes_told}
use Rattle.runner.specs.declared.running.Ran.{Ran}
use Rattle.runner.specs.Running.{Becomes}
use Rattle.compared.specs.declared.tally.Tally.{Tally}
use Rattle.compared.specs.Tallies.{Same, Different}

-- the first refusal, and whether it answers the last call
abbrev pub first_refused : List (Result (Unit {0}) Refusal) → Option (Refusal × Bool)
first_refused [] = None
first_refused (Ok x ∷ rs) = first_refused rs
first_refused (Err e ∷ []) = Some (e, true)
first_refused (Err e ∷ (r ∷ rs)) = Some (e, false)

-- the crate answers `Unsupported` under 3 and 5, and its answers are to sheets that end with the refused call
abbrev pub refusal_told : Refusal → Bool → List ℕ
refusal_told e true = if number e == 3 || number e == 5 then codes "unsupported" else traced (Err e)
refusal_told e false = traced (Err e)

-- by the first refusal, else by the bytes that the sink holds
abbrev pub ran_told : Option (Refusal × Bool) → List ℕ → List ℕ
ran_told (Some x) held = refusal_told x.0 x.1
ran_told None held = bytes_told held

abbrev pub outcome_told : Result Ran Refusal → List ℕ
outcome_told (Err e) = traced (Err e)
outcome_told (Ok r) = ran_told (first_refused (vec_items r.answers)) (vec_items r.bytes)

-- the line tells what becomes of the sheet
abbrev pub Tells : Batch → List ℕ → Type 0
Tells sheet line = (o : Result Ran Refusal) × Becomes sheet o × (line ≡ outcome_told o)

-- neither mark stands at the front of the line
abbrev pub HoldsNone : List ℕ → Type 0
HoldsNone text = (crates : List ℕ) → (text ≢ codes "#= " ++ crates) × (text ≢ codes "#! " ++ crates)

-- the line holds an answer to the sheet, behind one of two marks, which is judged by ours; or it holds none
abbrev pub Judged : Batch → ℕ → List ℕ → Bool → Tally → Tally → Type 0
Judged sheet n text true t t' =
    (crates : List ℕ) × (ours : List ℕ) × Tells sheet ours
    × (((text ≡ codes "#= " ++ crates) × Same n crates ours t t') ⊎ ((text ≡ codes "#! " ++ crates) × Different n crates ours t t'))
Judged sheet n text false t t' = HoldsNone text × (t' ≡ t)
