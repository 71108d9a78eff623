-- How a writer and a sink came to be as they are, and the laws of what such a sink holds. Assumes nothing.
use Rattle.std.specs.Prelude.{◌≡◌, ℕ, true, false, List, [], ◌∷◌, ◌++◌, None, Option, Result}
use Rattle.std.specs.Borrow.{MutBor}
use Rattle.refusal.specs.declared.Refusal.{Refusal}
use Rattle.style.specs.declared.indentation.Indentation.{Indentation}
use Rattle.style.specs.declared.style.EmptyElementHandling.{EmptyElementHandling}
use Rattle.reader.specs.Trees.{Bytes}
use Rattle.model.specs.declared.place.Place.TheVariants.{Idle}
use Rattle.model.specs.declared.frame.Frame.{Frame}
use Rattle.model.specs.Calls.{Call, Answer}
use Rattle.model.specs.Marks.{Mark, tag_byte, lead, indent, bytes_of_mark}
use Rattle.model.specs.Model.{idle}
use Rattle.model.specs.Table.{Memory, Setting}
use Rattle.model.specs.Run.{run, answers, writer, new}
use Rattle.model.specs.Fields.{Field, calls, names_attribute}
use Rattle.model.specs.Documents.{accepted_calls, documents, layouts}
use Rattle.model.specs.Says.{trees}
use Rattle.std.specs.List.{AllByRecursion}
use Rattle.model.specs.Laws.{sink_after, answers_to, Agree, Settled, ReadsExactly, BothOrders}
use Rattle.model.specs.Indents.{ElementAt, BytesOfMarks}
use Rattle.engine.specs.Memory.{Mem}
use Rattle.engine.specs.Lays.{Lays, setting, Does}
use Rattle.places.specs.Sound.{Sound}
use Rattle.writer.specs.Starting.{starting}
use Rattle.writer.specs.Served.{Serves, answered, HandsNothing}

-- the writer is idle and the sink is empty
pub record New (w : Mem) (bs : Bytes) : Type 0 where
  pub place : w.place ≡ Idle
  pub empty : bs ≡ []

-- the calls cs, answered by rs, led from a new writer x and an empty sink of room r to the memory w and to a sink that holds bs and
-- has room k
pub record History (x : Setting) (cs : List Call) (rs : List Answer) (r : ℕ) (w : Mem) (bs : Bytes) (k : ℕ) : Type 0 where
  pub writer : setting w ≡ x
  pub memory : Lays (run x cs (new r)).model w
  pub held : bs ≡ (run x cs (new r)).sink
  pub room : k ≡ (run x cs (new r)).room
  pub told : rs ≡ answers x cs (new r)

-- both are layouts of the same records, which the accepted calls alone write: each indent stands directly before a tag, straight
-- behind a tag and never behind a text, and all other bytes are equal
pub record Alike (i j : Option Indentation) (bs cs : Bytes) (records : List (List Mark)) : Type 0 where
  pub one : bs ≡ layouts i records
  pub other : cs ≡ layouts j records
  pub before_a_tag : (h : Option Indentation) (d : ℕ) → bytes_of_mark h (lead d) ≡ indent h d ++ bytes_of_mark h (tag_byte 60)
  pub behind_a_tag : AllByRecursion Settled records

-- the records, in marks, that these calls write by those of them that were accepted
abbrev pub records_of : Setting → List Call → List Answer → List (List Mark)
records_of x cs rs = documents x.form (accepted_calls cs rs) idle

-- what is true of the bytes bs of a sink to which the calls cs on the writer x led, answered by rs, from an empty one of room r
pub record LawsOf (x : Setting) (cs : List Call) (rs : List Answer) (r : ℕ) (bs : Bytes) : Type 0 where
  -- reading back: unindented, it is read as exactly the trees of the records finished into it
  pub reads_back : x.indentation ≡ None → ReadsExactly bs (trees cs rs)
  -- each indent in it is the line feed and the indent byte, size times for each element that is open around its tag: it is the layout
  -- of records, and each of them is an element around which none is open
  pub depth_of_indents : (bs ≡ layouts x.indentation (records_of x cs rs)) × AllByRecursion (ElementAt 0) (records_of x cs rs) × BytesOfMarks
  -- indentation changes only the indents: any other writer of another indentation, over any memory and any room, that answers alike
  pub indents_alone : (j : Option Indentation) (n : Memory) (q : ℕ) → Agree rs (answers_to (writer x.form j n) cs q) → Alike x.indentation j bs (sink_after (writer x.form j n) cs q) (records_of x cs rs)
  -- an '@' field and the child field behind it may change places
  pub attribute_first : (front : List Call) (a c : Field) (rest : List Call) → cs ≡ front ++ ((calls a ++ calls c) ++ rest) → names_attribute a.key ≡ true → names_attribute c.key ≡ false → (n : Memory) (q : ℕ) → BothOrders x (writer x.form x.indentation n) r q front a c rest → bs ≡ sink_after (writer x.form x.indentation n) (front ++ ((calls c ++ calls a) ++ rest)) q
  -- and so may a child field and the '@' field behind it
  pub child_first : (front : List Call) (a c : Field) (rest : List Call) → cs ≡ front ++ ((calls c ++ calls a) ++ rest) → names_attribute a.key ≡ true → names_attribute c.key ≡ false → (n : Memory) (q : ℕ) → BothOrders (writer x.form x.indentation n) x q r front a c rest → bs ≡ sink_after (writer x.form x.indentation n) (front ++ ((calls a ++ calls c) ++ rest)) q

-- A history begins: no calls led to a new writer and an empty sink
abbrev pub HistoryBegins : Type 0
HistoryBegins =
    (f : EmptyElementHandling) (i : Option Indentation) (stage names : MutBor (List ℕ)) (frames : MutBor (List Frame)) (k : ℕ) → History (setting (starting f i stage names frames)) [] [] k (starting f i stage names frames) [] k

-- and to an idle writer and an empty sink, whatever the writer did before
abbrev pub HistoryBeginsIdle : Type 0
HistoryBeginsIdle = (w : Mem) (bs : Bytes) (k : ℕ) → Sound w → New w bs → History (setting w) [] [] k w bs k

-- A history grows by any call, once its promise is kept on the writer and the sink together
abbrev pub HistoryGrows : Type 0
HistoryGrows =
    (x : Setting) (cs : List Call) (rs : List Answer) (r : ℕ) (w v : Mem) (bs bs' : Bytes) (k k' : ℕ) (c : Call) (result : Result (Unit {0}) Refusal) → History x cs rs r w bs k → Serves c result w v bs k bs' k' → History x (cs ++ (c ∷ [])) (rs ++ (answered result ∷ [])) r v bs' k'

-- It grows by any call but finish on the writer alone, which leaves every sink as it is
abbrev pub HistoryGrowsAside : Type 0
HistoryGrowsAside =
    (x : Setting) (cs : List Call) (rs : List Answer) (r : ℕ) (w v : Mem) (bs : Bytes) (k : ℕ) (c : Call) (result : Result (Unit {0}) Refusal) → History x cs rs r w bs k → HandsNothing c → Does c k result w v → History x (cs ++ (c ∷ [])) (rs ++ (answered result ∷ [])) r v bs k

-- Every history has the laws
abbrev pub HistoriesHaveLaws : Type 0
HistoriesHaveLaws = (x : Setting) (cs : List Call) (rs : List Answer) (r : ℕ) (w : Mem) (bs : Bytes) (k : ℕ) → History x cs rs r w bs k → LawsOf x cs rs r bs
