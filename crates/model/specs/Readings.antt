-- Small runs that fix what the rules mean where they could be read in two ways. Assumes nothing.
use Rattle.std.specs.Prelude.{◌≡◌, ℕ, List, [], ◌∷◌, ◌++◌, Some, None, codes, Option, refl}
use Rattle.refusal.specs.declared.Refusal.{Refusal}
use Rattle.refusal.specs.declared.Refusal.TheVariants.{Order, Bytes as BytesAt, Shape, RunOn, Name as NameAt, Stack}
use Rattle.style.specs.declared.indentation.Indentation.{Indentation}
use Rattle.style.specs.declared.style.EmptyElementHandling.{EmptyElementHandling}
use Rattle.style.specs.declared.style.EmptyElementHandling.TheVariants.{SelfClosed, SelfClosedWithSpace, Expanded}
use Rattle.xml.specs.declared.escape.QuoteLevel.TheVariants.{Partial}
use Rattle.reader.specs.Trees.{Bytes}
use Rattle.std.specs.List.{AllByRecursion}
use Rattle.model.specs.Calls.{val_variant, val_wrapped, val_variant_row, val_record, val_variant_record, Call, call_open, call_field, call_value, call_end, call_finish, Answer, accepted, refused}
use Rattle.model.specs.Rules.{level_rule}
use Rattle.model.specs.Table.{Memory}
use Rattle.model.specs.Run.{new, writer, run, answers}
use Rattle.model.specs.Fields.{Field, calls}
use Rattle.model.specs.Laws.{BothOrders, sink_after}
use Rattle.model.specs.Sheets.{string, absent, row, ample, sheet_with}

-- calls inside the record `sheet`, the refusals among them with their places, and what the sink holds in the end
pub record Reading : Type 0 where
  pub form : EmptyElementHandling
  pub indentation : Option Indentation
  pub memory : Memory
  pub calls : List Call
  pub refusals : List (Option Refusal)
  pub holds : Bytes

-- the refusals in a list of answers; the accepted calls have none
abbrev pub refusals_in : List Answer → List (Option Refusal)
refusals_in [] = []
refusals_in (accepted ∷ rs) = None ∷ refusals_in rs
refusals_in (refused e ∷ rs) = Some e ∷ refusals_in rs

-- no refusal among these calls
abbrev pub none_of : List Call → List (Option Refusal)
none_of [] = []
none_of (c ∷ cs) = None ∷ none_of cs

-- a new writer answers so, and its sink then holds these bytes; open, end and finish around the calls are accepted
abbrev pub IsSo : Reading → Type 0
IsSo r =
    (refusals_in (answers (writer r.form r.indentation r.memory) (sheet_with r.calls) (new 100)) ≡ None ∷ (r.refusals ++ (None ∷ None ∷ []))) × ((run (writer r.form r.indentation r.memory) (sheet_with r.calls) (new 100)).sink ≡ r.holds)

-- all calls are accepted
abbrev pub gives : List Call → Bytes → Reading
gives cs bs = record { form = SelfClosed; indentation = None; memory = ample; calls = cs; refusals = none_of cs; holds = bs }

-- all calls are accepted, by a writer that indents by so many spaces
abbrev pub indented : ℕ → List Call → Bytes → Reading
indented n cs bs = record { form = SelfClosed; indentation = Some (record { byte = 32; size = n }); memory = ample; calls = cs; refusals = none_of cs; holds = bs }

-- some calls are refused
abbrev pub answers_so : List Call → List (Option Refusal) → Bytes → Reading
answers_so cs es bs = record { form = SelfClosed; indentation = None; memory = ample; calls = cs; refusals = es; holds = bs }

-- a field of this key
abbrev pub fld : Bytes → Call
fld k = call_field k

-- a variant under the level Partial
abbrev pub variant : Bytes → Call
variant v = call_value (val_variant (level_rule Partial) v)

-- a wrapped value
abbrev pub wrapped : Bytes → Call
wrapped v = call_value (val_wrapped v)

-- a record of this name
abbrev pub rec : Bytes → Call
rec n = call_value (val_record n)

-- a text field
abbrev pub text_key : Call
text_key = fld (codes "$text")

-- a field of mixed value
abbrev pub value_key : Call
value_key = fld (codes "$value")

-- 'directly before' is about bytes of the record: a text field before a row, with an attribute, none, variant `$text`, an empty
-- text or an empty row between, keeps text from being the row's first item; a tag ends that
abbrev pub run_ons : List Reading
run_ons =
    answers_so (text_key ∷ string (codes "x") ∷ value_key ∷ row ∷ string (codes "y") ∷ call_end ∷ []) (None ∷ None ∷ None ∷ None ∷ Some RunOn ∷ None ∷ []) (codes "<sheet>x</sheet>")
    ∷ answers_so (text_key ∷ string (codes "x") ∷ fld (codes "@a") ∷ string (codes "1") ∷ value_key ∷ row ∷ absent ∷ variant (codes "$text") ∷ string [] ∷ row ∷ call_end ∷ string (codes "y") ∷ call_end ∷ []) (None ∷ None ∷ None ∷ None ∷ None ∷ None ∷ None ∷ None ∷ None ∷ None ∷ None ∷ Some RunOn ∷ None ∷ []) (codes "<sheet a=\"1\">x</sheet>")
    ∷ gives (text_key ∷ string (codes "x") ∷ value_key ∷ row ∷ variant (codes "t") ∷ string (codes "y") ∷ call_end ∷ []) (codes "<sheet>x<t/>y</sheet>")
    ∷ gives (text_key ∷ string (codes "x") ∷ value_key ∷ string (codes "y") ∷ []) (codes "<sheet>xy</sheet>")
    ∷ answers_so (value_key ∷ row ∷ string (codes "x") ∷ wrapped (codes "$text") ∷ call_value (val_variant_row (codes "$text")) ∷ call_value (val_variant_record (codes "$text")) ∷ rec (codes "$text") ∷ string [] ∷ call_end ∷ []) (None ∷ None ∷ None ∷ Some RunOn ∷ Some RunOn ∷ Some Shape ∷ Some (NameAt 0) ∷ None ∷ None ∷ []) (codes "<sheet>x</sheet>")
    ∷ []

-- names: only what is meant for a tag or an attribute is checked as one, and every string for its bytes
abbrev pub named : List Reading
named =
    gives (fld (codes "way") ∷ rec (codes "1 2") ∷ call_end ∷ []) (codes "<sheet><way/></sheet>")
    ∷ answers_so (fld (codes "way") ∷ rec (0xC3 ∷ []) ∷ absent ∷ []) (None ∷ Some (BytesAt 0) ∷ None ∷ []) (codes "<sheet><way/></sheet>")
    ∷ answers_so (fld (codes "@$text") ∷ fld (codes "$none") ∷ value_key ∷ rec (codes "$value") ∷ rec (codes "@a") ∷ absent ∷ []) (Some (NameAt 1) ∷ Some (NameAt 0) ∷ None ∷ Some (NameAt 0) ∷ Some (NameAt 0) ∷ None ∷ []) (codes "<sheet/>")
    ∷ []

-- variants and none
abbrev pub values : List Reading
values =
    record { form = Expanded; indentation = None; memory = ample; calls = fld (codes "a") ∷ variant [] ∷ fld (codes "b") ∷ absent ∷ []; refusals = None ∷ None ∷ None ∷ None ∷ []; holds = codes "<sheet><a></a><b></b></sheet>" }
    ∷ record { form = SelfClosedWithSpace; indentation = None; memory = ample; calls = fld (codes "a") ∷ variant [] ∷ fld (codes "b") ∷ variant (codes "$text") ∷ []; refusals = None ∷ None ∷ None ∷ None ∷ []; holds = codes "<sheet><a></a><b /></sheet>" }
    ∷ gives (fld (codes "@a") ∷ absent ∷ fld (codes "@b") ∷ variant (codes "$text") ∷ text_key ∷ variant (codes "$text") ∷ value_key ∷ wrapped (codes "$text") ∷ variant (codes "$text") ∷ []) (codes "<sheet a=\"\" b=\"$text\">$text</sheet>")
    ∷ gives (value_key ∷ wrapped (codes "w") ∷ row ∷ string (codes "1") ∷ rec (codes "r") ∷ fld (codes "@k") ∷ string (codes "2") ∷ call_end ∷ row ∷ absent ∷ call_end ∷ call_end ∷ []) (codes "<sheet><w>1</w><w k=\"2\"/><w/></sheet>")
    ∷ gives (value_key ∷ call_value (val_variant_row (codes "$text")) ∷ string (codes "a b") ∷ variant (codes "$text") ∷ string [] ∷ call_end ∷ []) (codes "<sheet>a&#32;b $text</sheet>")
    ∷ []

-- order: `end` between wrapped and its value, none in a list
abbrev pub orders : List Reading
orders =
    answers_so (value_key ∷ wrapped (codes "w") ∷ call_end ∷ fld (codes "x") ∷ call_finish ∷ call_open (codes "y") ∷ absent ∷ absent ∷ []) (None ∷ None ∷ Some Order ∷ Some Order ∷ Some Order ∷ Some Order ∷ None ∷ Some Order ∷ []) (codes "<sheet><w/></sheet>")
    ∷ answers_so (fld (codes "@a") ∷ row ∷ absent ∷ row ∷ call_end ∷ []) (None ∷ None ∷ Some Shape ∷ Some Shape ∷ None ∷ []) (codes "<sheet a=\"\"/>")
    ∷ []

-- indents: by records alone; size 0 is a line feed alone; after an empty named row or variant `$text` the flag allows one, but
-- none stands straight after a text, end tags included; after none, an empty text or an empty list at the text place it does not
abbrev pub indents : List Reading
indents =
    indented 1 (fld (codes "a") ∷ rec [] ∷ fld (codes "b") ∷ row ∷ string (codes "1") ∷ row ∷ absent ∷ call_end ∷ call_end ∷ call_end ∷ []) (codes "<sheet>" ++ (10 ∷ codes " <a>" ++ (10 ∷ codes "  <b>1</b>" ++ (10 ∷ codes "  <b/>" ++ (10 ∷ codes " </a>" ++ (10 ∷ codes "</sheet>"))))))
    ∷ indented 0 (fld (codes "a") ∷ absent ∷ []) (codes "<sheet>" ++ (10 ∷ codes "<a/>" ++ (10 ∷ codes "</sheet>")))
    ∷ indented 2 (text_key ∷ string (codes "a") ∷ fld (codes "b") ∷ row ∷ call_end ∷ []) (codes "<sheet>a</sheet>")
    ∷ indented 2 (text_key ∷ string (codes "a") ∷ fld (codes "b") ∷ row ∷ call_end ∷ fld (codes "c") ∷ absent ∷ []) (codes "<sheet>a<c/>" ++ (10 ∷ codes "</sheet>"))
    ∷ indented 2 (text_key ∷ string (codes "a") ∷ value_key ∷ variant (codes "$text") ∷ fld (codes "c") ∷ absent ∷ []) (codes "<sheet>a<c/>" ++ (10 ∷ codes "</sheet>"))
    ∷ indented 2 (fld (codes "c") ∷ absent ∷ value_key ∷ absent ∷ []) (codes "<sheet>" ++ (10 ∷ codes "  <c/></sheet>"))
    ∷ indented 2 (text_key ∷ absent ∷ fld (codes "c") ∷ absent ∷ []) (codes "<sheet><c/>" ++ (10 ∷ codes "</sheet>"))
    ∷ indented 2 (text_key ∷ string [] ∷ fld (codes "c") ∷ absent ∷ []) (codes "<sheet><c/>" ++ (10 ∷ codes "</sheet>"))
    ∷ indented 2 (text_key ∷ row ∷ call_end ∷ fld (codes "c") ∷ absent ∷ []) (codes "<sheet><c/>" ++ (10 ∷ codes "</sheet>"))
    ∷ []

-- the name stack: a record at an element place brings no name, and a field's name leaves when the field is complete
abbrev pub stacks : List Reading
stacks =
    record { form = SelfClosed; indentation = None; memory = record { stage = 100; names = 6; frames = 3 }; calls = fld (codes "a") ∷ row ∷ rec (codes "long") ∷ call_end ∷ call_end ∷ fld (codes "b") ∷ absent ∷ fld (codes "cd") ∷ []; refusals = None ∷ None ∷ None ∷ None ∷ None ∷ None ∷ None ∷ Some Stack ∷ []; holds = codes "<sheet><a/><b/></sheet>" }
    ∷ []

-- a late attribute with a list as its value, and a record as a child, which has an attribute of its own: fields that change places
abbrev pub list_field : Field
list_field = record { key = codes "@no"; values = row ∷ string (codes "1") ∷ string (codes "2") ∷ call_end ∷ []; whole = refl }

abbrev pub record_field : Field
record_field = record { key = codes "$value"; values = wrapped (codes "t") ∷ rec [] ∷ fld (codes "@a") ∷ absent ∷ call_end ∷ []; whole = refl }

-- the law on changing places is about something: both orders of these two are taken, over different memories, with a refused call on
-- either side, and both sinks hold the same bytes
abbrev pub OrdersTaken : Type 0
OrdersTaken =
    BothOrders (writer SelfClosed None ample) (writer SelfClosed None (record { stage = 64; names = 9; frames = 2 })) 99 44 (call_finish ∷ call_open (codes "sheet") ∷ []) list_field record_field (call_finish ∷ call_end ∷ call_finish ∷ []) × (sink_after (writer SelfClosed None ample) (call_finish ∷ call_open (codes "sheet") ∷ (calls list_field ++ (calls record_field ++ (call_end ∷ call_finish ∷ [])))) 99 ≡ codes "<sheet no=\"1 2\"><t a=\"\"/></sheet>")

-- every small run comes out so
abbrev pub Readings : Type 0
Readings = AllByRecursion IsSo run_ons × AllByRecursion IsSo named × AllByRecursion IsSo values × AllByRecursion IsSo orders × AllByRecursion IsSo indents × AllByRecursion IsSo stacks × OrdersTaken
