-- The table of refusals: the grounds that lie in memory and sink, and the first row that applies. Assumes nothing.
use Rattle.std.specs.Prelude.{ℕ, ◌-◌, min, Bool, true, false, cond, ◌&&◌, List, [], ◌∷◌, length, Some, None, Option, nat_le, nat_lt}
use Rattle.refusal.specs.declared.Refusal.{Refusal}
use Rattle.refusal.specs.declared.Refusal.TheVariants.{Order, Bytes as BytesAt, Shape, RunOn, Name as NameAt, Stack, Depth, Stage, Sink}
use Rattle.style.specs.declared.indentation.Indentation.{Indentation}
use Rattle.style.specs.declared.style.EmptyElementHandling.{EmptyElementHandling}
use Rattle.model.specs.declared.place.Place.{Place}
use Rattle.model.specs.declared.place.Place.TheVariants.{Idle, Field, Element, Content, Text, Simple, Attribute, TextItem, AttributeItem, Complete}
use Rattle.reader.specs.Trees.{Bytes}
use Rattle.model.specs.Strings.{whole}
use Rattle.model.specs.Calls.{Value, val_text, val_none, val_variant, val_wrapped, val_row, val_variant_row, val_record, val_variant_record, Call, call_open, call_field, call_value, call_end, call_finish, call_abandon, Key, key_attribute, key_text, key_value, key_element, key, is_text_name}
use Rattle.model.specs.Marks.{flatten}
use Rattle.model.specs.Model.{State, idle, between, inside, quote, complete, place}
use Rattle.model.specs.Step.{step}
use Rattle.model.specs.Layout.{stage, names, frames}
use Rattle.model.specs.Grounds.{out_of_order, string_of, ill_formed, misshapen, runs_on, misnamed}

-- what the caller lends: how many bytes for the stage, bytes for the name stack, and frames
pub record Memory : Type 0 where
  pub stage : ℕ
  pub names : ℕ
  pub frames : ℕ

-- a writer: its style, and the memory that it is made over
pub record Setting : Type 0 where
  pub form : EmptyElementHandling
  pub indentation : Option Indentation
  pub memory : Memory

-- no more than this much is ever used
abbrev pub stage_size : Setting → ℕ
stage_size w = min w.memory.stage 65536

-- how much of the name stack
abbrev pub names_size : Setting → ℕ
names_size w = min w.memory.names 4096

-- how many frames
abbrev pub frames_size : Setting → ℕ
frames_size w = min w.memory.frames 64

-- 6, Stack: the name stack has fewer free bytes than the name. The name that a call brings to the stack:
-- that of a record or a row at a content place, and of an element that is still to come
abbrev pub content_name : Value → Bytes
content_name (val_text r s) = []
content_name val_none = []
content_name (val_variant r v) = []
content_name (val_wrapped v) = cond (is_text_name v) [] v
content_name val_row = []
content_name (val_variant_row v) = cond (is_text_name v) [] v
content_name (val_record n) = n
content_name (val_variant_record v) = v

-- the name that a value brings, which is none but at a content place
abbrev pub value_name : Value → Place → Bytes
value_name v Idle = []
value_name v Field = []
value_name v (Element u) = []
value_name v (Content p) = content_name v
value_name v Text = []
value_name v Simple = []
value_name v Attribute = []
value_name v (TextItem w) = []
value_name v (AttributeItem w) = []
value_name v Complete = []

-- the name that a key brings: that of an element
abbrev pub key_name : Key → Bytes
key_name (key_attribute k) = []
key_name key_text = []
key_name key_value = []
key_name (key_element n) = n

-- the name that a call brings
abbrev pub name_brought : Call → State → Bytes
name_brought (call_open n) st = n
name_brought (call_field k) st = key_name (key k)
name_brought (call_value v) st = value_name v (place st)
name_brought call_end st = []
name_brought call_finish st = []
name_brought call_abandon st = []

-- the ground of the sixth row
abbrev pub stack_full : Setting → Call → State → Bool
stack_full w c st = nat_lt (names_size w - length (names st)) (length (name_brought c st))

-- 7, Depth: every frame is open and the call takes one. Rows, lists and records take one
abbrev pub value_opens : Value → Bool
value_opens (val_text r s) = false
value_opens val_none = false
value_opens (val_variant r v) = false
value_opens (val_wrapped v) = false
value_opens val_row = true
value_opens (val_variant_row v) = true
value_opens (val_record n) = true
value_opens (val_variant_record v) = true

-- open takes a frame, and every value that opens something
abbrev pub takes_frame : Call → Bool
takes_frame (call_open n) = true
takes_frame (call_field k) = false
takes_frame (call_value v) = value_opens v
takes_frame call_end = false
takes_frame call_finish = false
takes_frame call_abandon = false

-- the ground of the seventh row
abbrev pub too_deep : Setting → Call → State → Bool
too_deep w c st = takes_frame c && nat_le (frames_size w) (length (frames w.indentation st))

-- 8, Stage: the stage has fewer free bytes than the call adds. Where the places say nothing of a call, all stays
abbrev pub or_stay : State → Option State → State
or_stay st None = st
or_stay st (Some next) = next

-- the state after an accepted call
abbrev pub next : EmptyElementHandling → Call → State → State
next f c st = or_stay st (step f c st)

-- the ground of the eighth row
abbrev pub stage_full : Setting → Call → State → Bool
stage_full w c st =
    nat_lt (stage_size w - length (stage w.indentation st)) (length (stage w.indentation (next w.form c st)) - length (stage w.indentation st))

-- 9, Sink: the sink's room is less than the record's length. The bytes of a complete record
abbrev pub record_bytes : Option Indentation → State → Bytes
record_bytes i idle = []
record_bytes i (between l ls) = []
record_bytes i (inside s rs l ls) = []
record_bytes i (quote q l ls) = []
record_bytes i (complete ms) = flatten i ms

-- what a call hands to the sink: finish the whole record, any other nothing
abbrev pub handed : Option Indentation → Call → State → Bytes
handed i (call_open n) st = []
handed i (call_field k) st = []
handed i (call_value v) st = []
handed i call_end st = []
handed i call_finish st = record_bytes i st
handed i call_abandon st = []

-- the ground of the ninth row
abbrev pub sink_full : Setting → ℕ → Call → State → Bool
sink_full w room c st = nat_lt room (length (handed w.indentation c st))

-- a row of the table: its refusal where its ground holds
abbrev pub when : Bool → Refusal → Option Refusal
when true e = Some e
when false e = None

-- the fifth row's refusal, with its offset
abbrev pub fault_at : Option ℕ → Option Refusal
fault_at None = None
fault_at (Some k) = Some (NameAt k)

-- the nine rows that a call can meet, in their order, at a room of the sink; the tenth is of the style alone
abbrev pub table : Setting → ℕ → Call → State → List (Option Refusal)
table w room c st =
    when (out_of_order c st) Order
    ∷ when (ill_formed c) (BytesAt (whole (string_of c)))
    ∷ when (misshapen c st) Shape
    ∷ when (runs_on c st) RunOn
    ∷ fault_at (misnamed c st)
    ∷ when (stack_full w c st) Stack
    ∷ when (too_deep w c st) Depth
    ∷ when (stage_full w c st) Stage
    ∷ when (sink_full w room c st) Sink
    ∷ []

-- the first row that applies
abbrev pub first : List (Option Refusal) → Option Refusal
first [] = None
first (None ∷ rows) = first rows
first (Some e ∷ rows) = Some e

-- what becomes of a call: it is refused on a ground, or accepted and leads to this state
pub data Verdict : Type 0 where
  refuse : Refusal → Verdict
  accept : State → Verdict

-- refused where a row applies, and else accepted
abbrev pub judged : Option Refusal → State → Verdict
judged None st = accept st
judged (Some e) st = refuse e

-- the verdict on a call at a state, with this room in the sink
abbrev pub verdict : Setting → ℕ → Call → State → Verdict
verdict w room c st = judged (first (table w room c st)) (next w.form c st)
