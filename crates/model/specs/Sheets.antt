-- Ten sheets worked by hand: the calls of each, and what its writer answers and its sink then holds. Assumes nothing.
use Rattle.std.specs.Prelude.{◌≡◌, ℕ, List, [], ◌∷◌, ◌++◌, Some, None, codes, Option}
use Rattle.refusal.specs.declared.Refusal.TheVariants.{Name as NameAt, Stage, RunOn, Order}
use Rattle.style.specs.declared.indentation.Indentation.{Indentation}
use Rattle.style.specs.declared.style.EmptyElementHandling.TheVariants.{SelfClosed}
use Rattle.xml.specs.declared.escape.QuoteLevel.TheVariants.{Partial}
use Rattle.reader.specs.Trees.{Bytes}
use Rattle.std.specs.List.{AllByRecursion}
use Rattle.model.specs.Calls.{val_text, val_none, val_row, Call, call_open, call_field, call_value, call_end, call_finish, Answer, accepted, refused}
use Rattle.model.specs.Rules.{level_rule}
use Rattle.model.specs.Table.{Memory}
use Rattle.model.specs.Run.{new, writer, run, answers, all_accepted}

-- one way to run a sheet: over this memory, into a sink of this room, with these answers, and these bytes in the sink at the end
pub record Trial : Type 0 where
  pub memory : Memory
  pub room : ℕ
  pub answered : List Answer
  pub holds : Bytes

-- a sheet: the indentation, the calls, and the trials that it is put to
pub record Sheet : Type 0 where
  pub indentation : Option Indentation
  pub calls : List Call
  pub trials : List Trial

-- a string under the level Partial
abbrev pub string : Bytes → Call
string s = call_value (val_text (level_rule Partial) s)

-- no value
abbrev pub absent : Call
absent = call_value val_none

-- a row
abbrev pub row : Call
row = call_value val_row

-- memory and room that are large enough for each sheet
abbrev pub ample : Memory
ample = record { stage = 100; names = 20; frames = 5 }

-- calls inside the record `sheet`, which is then finished
abbrev pub sheet_with : List Call → List Call
sheet_with cs = call_open (codes "sheet") ∷ (cs ++ (call_end ∷ call_finish ∷ []))

-- a sheet of which every call is accepted, and what its sink holds
abbrev pub written : Option Indentation → List Call → Bytes → Sheet
written i cs bs = record { indentation = i; calls = sheet_with cs; trials = record { memory = ample; room = 100; answered = all_accepted (sheet_with cs); holds = bs } ∷ [] }

-- an attribute, and a title with & in it
abbrev pub sheet_a : Sheet
sheet_a =
    written None (call_field (codes "@no") ∷ string (codes "12") ∷ call_field (codes "title") ∷ string (codes "Alp & Tal") ∷ []) (codes "<sheet no=\"12\"><title>Alp &amp; Tal</title></sheet>")

-- an attribute that comes late
abbrev pub sheet_b : Sheet
sheet_b = written None (call_field (codes "title") ∷ string (codes "A") ∷ call_field (codes "@no") ∷ string (codes "3") ∷ []) (codes "<sheet no=\"3\"><title>A</title></sheet>")

-- a stage of 8 bytes suffices, and one of 7 gives refusal 8 at the end
abbrev pub sheet_c : Sheet
sheet_c =
    record { indentation = None; calls = sheet_with []; trials = record { memory = record { stage = 8; names = 5; frames = 1 }; room = 8; answered = accepted ∷ accepted ∷ accepted ∷ []; holds = codes "<sheet/>" } ∷ record { memory = record { stage = 7; names = 5; frames = 1 }; room = 8; answered = accepted ∷ refused Stage ∷ refused Order ∷ []; holds = [] } ∷ [] }

-- a named row, with an empty item
abbrev pub sheet_d : Sheet
sheet_d = written None (call_field (codes "way") ∷ row ∷ string (codes "red") ∷ string [] ∷ call_end ∷ []) (codes "<sheet><way>red</way><way/></sheet>")

-- a list in an attribute: the space in an item is escaped
abbrev pub sheet_e : Sheet
sheet_e =
    written None (call_field (codes "@marks") ∷ row ∷ string (codes "red") ∷ string [] ∷ string (codes "white dot") ∷ call_end ∷ []) (codes "<sheet marks=\"red white&#32;dot\"/>")

-- an indent of two spaces for each record around a tag
abbrev pub sheet_f : Sheet
sheet_f =
    written (Some (record { byte = 32; size = 2 })) (call_field (codes "$text") ∷ string (codes "a") ∷ call_field (codes "way") ∷ absent ∷ []) (codes "<sheet>a<way/>" ++ (10 ∷ codes "</sheet>"))

-- text in a row
abbrev pub sheet_g : Sheet
sheet_g = written None (call_field (codes "$value") ∷ row ∷ string (codes "a") ∷ call_end ∷ []) (codes "<sheet>a</sheet>")

-- text straight after text in a row
abbrev pub sheet_h : Sheet
sheet_h =
    record { indentation = None; calls = call_open (codes "sheet") ∷ call_field (codes "$value") ∷ row ∷ string [] ∷ string (codes "a") ∷ string (codes "b") ∷ []; trials = record { memory = ample; room = 100; answered = accepted ∷ accepted ∷ accepted ∷ accepted ∷ accepted ∷ refused RunOn ∷ []; holds = [] } ∷ [] }

-- three keys that are no names
abbrev pub sheet_i : Sheet
sheet_i =
    record { indentation = None; calls = call_open (codes "sheet") ∷ call_field [] ∷ call_field (codes "@") ∷ call_field (codes "a b") ∷ []; trials = record { memory = ample; room = 100; answered = accepted ∷ refused (NameAt 0) ∷ refused (NameAt 1) ∷ refused (NameAt 1) ∷ []; holds = [] } ∷ [] }

-- a value that ends in a line feed
abbrev pub sheet_j : Sheet
sheet_j = written None (call_field (codes "@q") ∷ string (codes "a\"b" ++ (10 ∷ [])) ∷ []) (codes "<sheet q=\"a&quot;b&#10;\"/>")

-- the ten
abbrev pub ten_sheets : List Sheet
ten_sheets = sheet_a ∷ sheet_b ∷ sheet_c ∷ sheet_d ∷ sheet_e ∷ sheet_f ∷ sheet_g ∷ sheet_h ∷ sheet_i ∷ sheet_j ∷ []

-- a new writer that runs the sheet answers and writes as the trial says
abbrev pub ComesTrue : Option Indentation → List Call → Trial → Type 0
ComesTrue i cs t =
    (answers (writer SelfClosed i t.memory) cs (new t.room) ≡ t.answered) × ((run (writer SelfClosed i t.memory) cs (new t.room)).sink ≡ t.holds)

-- every trial of each of the ten sheets comes true
abbrev pub TenSheets : Type 0
TenSheets = AllByRecursion (λ s. AllByRecursion (ComesTrue s.indentation s.calls) s.trials) ten_sheets
