-- The laws of runs: what holds of every list of calls, whatever rules they bring, over any memory and into a sink of any room.
-- Assumes nothing.
use Rattle.std.specs.Prelude.{◌≡◌, ℕ, ◌+◌, ◌<◌, ◌≤◌, true, false, List, [], ◌∷◌, ◌++◌, length, take, Some, None, codes, IsUtf8, Decides, Option, ◌≢◌}
use Rattle.refusal.specs.declared.Refusal.{Refusal}
use Rattle.refusal.specs.Refusals.{number}
use Rattle.style.specs.declared.indentation.Indentation.{Indentation}
use Rattle.style.specs.declared.style.EmptyElementHandling.{EmptyElementHandling}
use Rattle.std.specs.Str.{IsValidUpTo}
use Rattle.reader.specs.Trees.{Bytes, Tree}
use Rattle.reader.specs.Reader.{Reads}
use Rattle.model.specs.Strings.{utf8, whole}
use Rattle.model.specs.Calls.{Call, Answer, accepted, refused}
use Rattle.model.specs.Marks.{Mark, tag_byte, text_byte, lead, indent, bytes_of_mark}
use Rattle.model.specs.Model.{State, idle}
use Rattle.model.specs.Step.{step}
use Rattle.model.specs.Layout.{stage, names, frames}
use Rattle.model.specs.Table.{Memory, Setting, stage_size, names_size, frames_size, table, next, stack_full, too_deep, stage_full}
use Rattle.model.specs.Run.{Session, new, writer, run, answer, answers, after, all_accepted}
use Rattle.model.specs.Fields.{Field, calls, names_attribute}
use Rattle.model.specs.Documents.{accepted_calls, documents, layouts}
use Rattle.model.specs.Says.{trees}
use Rattle.std.specs.List.{AllByRecursion}

-- what an empty sink of this room holds after these calls on a new writer
abbrev pub sink_after : Setting → List Call → ℕ → Bytes
sink_after w cs r = (run w cs (new r)).sink

-- how they are answered
abbrev pub answers_to : Setting → List Call → ℕ → List Answer
answers_to w cs r = answers w cs (new r)

-- Strings: the test of the table tells well-formed bytes from all others, and for all others the offset that is told is the length of
-- the longest beginning of whole characters
abbrev pub StringsToldApart : Type 0
StringsToldApart = (bs : Bytes) → Decides (utf8 bs) (IsUtf8 bs) × (utf8 bs ≡ false → IsValidUpTo bs (whole bs))

-- no row of a table applies
abbrev pub NoneApplies : List (Option Refusal) → Type 0
NoneApplies rows = AllByRecursion (λ r. r ≡ None) rows

-- the refusal e is that of its own row, the row of its number, and no earlier row applies
pub record FirstToApply (rows : List (Option Refusal)) (e : Refusal) : Type 0 where
  pub earlier : List (Option Refusal)
  pub later : List (Option Refusal)
  pub split : rows ≡ earlier ++ (Some e ∷ later)
  pub clear : NoneApplies earlier
  pub numbered : number e ≡ length earlier + 1

-- what an answer says of the table at this call and session
abbrev pub Grounded : Setting → Call → Session → Answer → Type 0
Grounded w c s accepted = NoneApplies (table w s.room c s.model) × (step w.form c s.model ≡ Some (after w c s).model)
Grounded w c s (refused e) = FirstToApply (table w s.room c s.model) e

-- The table: every call is refused on the ground of the first row that applies, or else accepted, and then the places say
-- what it does; where no row applies it is accepted
abbrev pub AnswersByTheTable : Type 0
AnswersByTheTable = (w : Setting) (c : Call) (s : Session) → Grounded w c s (answer w c s) × (NoneApplies (table w s.room c s.model) → answer w c s ≡ accepted)

-- what a writer holds fits its memory
pub record FitsMemory (w : Setting) (st : State) : Type 0 where
  pub stage : length (stage w.indentation st) ≤ stage_size w
  pub names : length (names st) ≤ names_size w
  pub frames : length (frames w.indentation st) ≤ frames_size w

-- Memory suffices: after any list of calls the writer fits its memory, and what the sink holds and the room left in it are its size
abbrev pub MemorySuffices : Type 0
MemorySuffices =
    (w : Setting) (cs : List Call) (r : ℕ) → FitsMemory w (run w cs (new r)).model × (length (run w cs (new r)).sink + (run w cs (new r)).room ≡ r)

-- a ground of want of memory holds exactly where the writer would not fit its memory after the call
pub record Wanting (w : Setting) (c : Call) (st : State) : Type 0 where
  pub stack : Decides (stack_full w c st) (names_size w < length (names (next w.form c st)))
  pub depth : Decides (too_deep w c st) (frames_size w < length (frames w.indentation (next w.form c st)))
  pub stage : Decides (stage_full w c st) (stage_size w < length (stage w.indentation (next w.form c st)))

-- Want of memory: in a run, a call that none of the first five rows refuses is refused for want of memory only where it would not fit
abbrev pub WantOfMemory : Type 0
WantOfMemory =
    (w : Setting) (cs : List Call) (r : ℕ) (c : Call) → NoneApplies (take 5 (table w (run w cs (new r)).room c (run w cs (new r)).model)) → Wanting w c (run w cs (new r)).model

-- Refused means unchanged: in a run from any session on, a refused call leaves model, sink and room as they were, and the run goes on as if it had not been made
abbrev pub RefusedMeansUnchanged : Type 0
RefusedMeansUnchanged =
    (w : Setting) (s : Session) (front : List Call) (c : Call) (rest : List Call) (e : Refusal) → answer w c (run w front s) ≡ refused e → (run w (front ++ (c ∷ [])) s ≡ run w front s) × (run w (front ++ (c ∷ rest)) s ≡ run w (front ++ rest) s) × (answers w rest (after w c (run w front s)) ≡ answers w rest (run w front s))

-- each call was accepted in both runs, or refused in both
abbrev pub Agree : List Answer → List Answer → Type 0
Agree [] [] = Unit {0}
Agree [] (r ∷ rs) = ⊥
Agree (accepted ∷ qs) [] = ⊥
Agree (accepted ∷ qs) (accepted ∷ rs) = Agree qs rs
Agree (accepted ∷ qs) (refused e ∷ rs) = ⊥
Agree (refused d ∷ qs) [] = ⊥
Agree (refused d ∷ qs) (accepted ∷ rs) = ⊥
Agree (refused d ∷ qs) (refused e ∷ rs) = Agree qs rs

-- both sinks hold the layouts of the same marks, one list for each record; the marks, so also which tags have an indent, are those
-- that the accepted calls alone write; and the mark of an indent is the indent with the `<` of the tag that it stands directly before
pub record SameMarks (v w : Setting) (cs : List Call) (r q : ℕ) : Type 0 where
  pub marks : List (List Mark)
  pub one : sink_after v cs r ≡ layouts v.indentation marks
  pub other : sink_after w cs q ≡ layouts w.indentation marks
  pub by_the_calls : marks ≡ documents v.form (accepted_calls cs (answers_to v cs r)) idle
  pub before_a_tag : (i : Option Indentation) (d : ℕ) → bytes_of_mark i (lead d) ≡ indent i d ++ codes "<"

-- Indents alone: two new writers whose styles differ only in indentation, with any memory and any rooms, that answer alike
abbrev pub IndentsAlone : Type 0
IndentsAlone =
    (f : EmptyElementHandling) (i j : Option Indentation) (m n : Memory) (r q : ℕ) (cs : List Call) → Agree (answers_to (writer f i m) cs r) (answers_to (writer f j n) cs q) → SameMarks (writer f i m) (writer f j n) cs r q

-- a record whose root's start tag has no indent before it, and in which every indent stands straight behind the `>` of a tag, so
-- none straight behind a byte of a text
pub record Settled (ms : List Mark) : Type 0 where
  pub root : (rest : List Mark) × (ms ≡ tag_byte 60 ∷ rest)
  pub behind_a_tag : (front rest : List Mark) (d : ℕ) → ms ≡ front ++ (lead d ∷ rest) → (x : List Mark) × (front ≡ x ++ (tag_byte 62 ∷ []))
  pub behind_no_text : (front rest : List Mark) (b d : ℕ) → ms ≢ front ++ (text_byte b ∷ lead d ∷ rest)

-- No indent after text: whatever a sink holds is the layout of such records, those that the accepted calls alone write
abbrev pub NoIndentAfterText : Type 0
NoIndentAfterText =
    (w : Setting) (cs : List Call) (r : ℕ) → (sink_after w cs r ≡ layouts w.indentation (documents w.form (accepted_calls cs (answers_to w cs r)) idle)) × AllByRecursion Settled (documents w.form (accepted_calls cs (answers_to w cs r)) idle)

-- the bytes have this reading, and no other
pub record ReadsExactly (bs : Bytes) (ts : List Tree) : Type 0 where
  pub reads : Reads bs ts
  pub only : (us : List Tree) → Reads bs us → us ≡ ts

-- Reads back: from a new unindented writer and an empty sink, after any list of calls, the sink is read as exactly the trees of the
-- records finished into it, in order
abbrev pub ReadsBack : Type 0
ReadsBack =
    (f : EmptyElementHandling) (m : Memory) (r : ℕ) (cs : List Call) → ReadsExactly (sink_after (writer f None m) cs r) (trees cs (answers_to (writer f None m) cs r))

-- Two runs in which the fields x and y stand in the two orders behind the same calls and before the same calls: all calls of the two
-- fields are accepted in both, and each other call is accepted in both or refused in both
pub record BothOrders (v w : Setting) (r q : ℕ) (front : List Call) (x y : Field) (rest : List Call) : Type 0 where
  pub before_them : Agree (answers_to v front r) (answers_to w front q)
  pub one : answers v (calls x ++ calls y) (run v front (new r)) ≡ all_accepted (calls x ++ calls y)
  pub other : answers w (calls y ++ calls x) (run w front (new q)) ≡ all_accepted (calls y ++ calls x)
  pub behind_them : Agree (answers v rest (run v (front ++ (calls x ++ calls y)) (new r))) (answers w rest (run w (front ++ (calls y ++ calls x)) (new q)))

-- Attributes change places: an '@' field and the child field next to it, before it or behind it, each with its values, change places:
-- both sinks then hold equal bytes
abbrev pub AttributesChangePlaces : Type 0
AttributesChangePlaces =
    (f : EmptyElementHandling) (i : Option Indentation) (m n : Memory) (r q : ℕ) (front : List Call) (x y : Field) (rest : List Call) → names_attribute x.key ≡ true → names_attribute y.key ≡ false → BothOrders (writer f i m) (writer f i n) r q front x y rest → sink_after (writer f i m) (front ++ ((calls x ++ calls y) ++ rest)) r ≡ sink_after (writer f i n) (front ++ ((calls y ++ calls x) ++ rest)) q
