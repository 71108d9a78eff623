-- What is printed of a writer, byte for byte. Assumes nothing.
use Rattle.std.specs.Prelude.{◌≡◌, ◌⊎◌, ℕ, List, [], ◌∷◌, ◌++◌, length, Ok, Err, Result, vec_items}
use Rattle.std.specs.IoError.{error_kind}
use Rattle.std.specs.declared.io.Error.{Error}
use Rattle.std.specs.declared.io.ErrorKind.TheVariants.{OutOfMemory}
use Rattle.refusal.specs.declared.Refusal.{Refusal}
use Rattle.feed.specs.declared.call_line.CallLine.{CallLine}
use Rattle.feed.specs.declared.batch.Batch.{Batch}
use Rattle.feed.specs.Telling.{traced, counted, told, bytes_told}
use Rattle.runner.specs.declared.running.Ran.{Ran}

-- a text and the end of its line
abbrev pub ended : List ℕ → List ℕ
ended text = text ++ (10 ∷ [])

-- the refused calls, each with the number of its line
abbrev pub refused_told : List CallLine → List (Result (Unit {0}) Refusal) → List ℕ
refused_told (c ∷ cs) (Ok x ∷ rs) = refused_told cs rs
refused_told (c ∷ cs) (Err e ∷ rs) = ended (told c.number e) ++ refused_told cs rs
refused_told cs rs = []

-- what is told of one call: its refusal, with the number of its own line, and of an accepted call nothing
abbrev pub told_of : CallLine → Result (Unit {0}) Refusal → List ℕ
told_of c (Ok x) = []
told_of c (Err e) = ended (told c.number e)

-- what is told of a call stands between what is told of those before and of those behind it
abbrev pub ToldInOrder : Type 0
ToldInOrder =
    (cs ds : List CallLine) (c : CallLine) (rs ss : List (Result (Unit {0}) Refusal)) (r : Result (Unit {0}) Refusal) →
    length cs ≡ length rs → refused_told (cs ++ c ∷ ds) (rs ++ r ∷ ss) ≡ refused_told cs rs ++ (told_of c r ++ refused_told ds ss)

-- the refusals of a writer: of its style, with the line of the style, or of its calls
abbrev pub refusals_told : Batch → Result Ran Refusal → List ℕ
refusals_told b (Err e) = ended (told b.setup.style.line e)
refusals_told b (Ok r) = refused_told (vec_items b.calls) (vec_items r.answers)

-- the XML of a writer, where its style is one
abbrev pub xml_of : Result Ran Refusal → List ℕ
xml_of (Err e) = []
xml_of (Ok r) = vec_items r.bytes

-- the answers, one to a line
abbrev pub answers_told : List (Result (Unit {0}) Refusal) → List ℕ
answers_told [] = []
answers_told (r ∷ rs) = ended (traced r) ++ answers_told rs

-- the line of an answer stands between those of the answers before and behind it
abbrev pub AnsweredInOrder : Type 0
AnsweredInOrder = (rs ss : List (Result (Unit {0}) Refusal)) (r : Result (Unit {0}) Refusal) → answers_told (rs ++ r ∷ ss) ≡ answers_told rs ++ (ended (traced r) ++ answers_told ss)

-- the trace of a writer: its answers, how much its sink holds and takes, and what it holds; of a refused style that alone
abbrev pub trace_of : Result Ran Refusal → List ℕ
trace_of (Err e) = ended (traced (Err e))
trace_of (Ok r) = answers_told (vec_items r.answers) ++ (ended (counted (length (vec_items r.bytes)) r.room) ++ ended (bytes_told (vec_items r.bytes)))

-- the error is one that the output gives, or want of memory
abbrev pub GivesOrWants : (Error → Type 0) → Error → Type 0
GivesOrWants gives e = gives e ⊎ (error_kind e ≡ OutOfMemory)
