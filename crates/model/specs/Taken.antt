-- What the places take, and the rows of the table against the steps: no row refuses what the places take but for want of memory,
-- bytes, names and permission. Assumes nothing.
use Rattle.std.specs.Prelude.{◌≡◌, ℕ, ◌+◌, Bool, true, false, ◌⊎◌, ◌≢◌, List, [], ◌∷◌, Some, None, Decides}
use Rattle.refusal.specs.declared.Refusal.TheVariants.{Bytes as BytesAt, RunOn, Stack, Depth, Stage, Sink}
use Rattle.style.specs.declared.result.WriteResult.{WriteResult}
use Rattle.xml.specs.Names.{name_fault}
use Rattle.reader.specs.Trees.{Bytes}
use Rattle.model.specs.Strings.{whole}
use Rattle.model.specs.Calls.{Rule, Value, val_text, val_variant, val_wrapped, val_variant_row, val_record, val_variant_record, Call, call_open, call_field, call_value, call_end, call_finish, call_abandon, key_attribute, key_element, key, is_text_name}
use Rattle.model.specs.Marks.{Mark}
use Rattle.model.specs.Model.{Level, Row, named_row, content_row, Outer, Spot, element, content, words, Quote, several, State, idle, between, inside, quote, complete}
use Rattle.model.specs.Step.{step}
use Rattle.model.specs.Grounds.{allowed, out_of_order, ill_formed, string_of, misshapen, runs_on, misnamed}
use Rattle.model.specs.Table.{Setting, when, fault_at, table, stack_full, too_deep, stage_full, sink_full}

-- which calls are in order where: open where nothing is open, a field or the end of the record between fields, a value where one is
-- due, the end of a row or a list where its next item is due, finish for a complete record, and abandon wherever a record is
pub data InOrder : Call → State → Type 0 where
  open_idle : {n : Bytes} → InOrder (call_open n) idle
  field_between : {k : Bytes} {l : Level} {ls : List Outer} → InOrder (call_field k) (between l ls)
  value_inside : {v : Value} {s : Spot} {rs : List Row} {l : Level} {ls : List Outer} → InOrder (call_value v) (inside s rs l ls)
  value_quoted : {v : Value} {q : Quote} {l : Level} {ls : List Outer} → InOrder (call_value v) (quote q l ls)
  end_of_record : {l : Level} {ls : List Outer} → InOrder call_end (between l ls)
  end_of_named_row : {u n t m : Bytes} {g : Bool} {rs : List Row} {l : Level} {ls : List Outer} → InOrder call_end (inside (element u n) (named_row t m g ∷ rs) l ls)
  end_of_content_row : {p g : Bool} {t : Bytes} {r : WriteResult} {rs : List Row} {l : Level} {ls : List Outer} → InOrder call_end (inside (content p) (content_row t r g ∷ rs) l ls)
  end_of_list : {w : Bool} {rs : List Row} {l : Level} {ls : List Outer} → InOrder call_end (inside (words w) rs l ls)
  end_of_quoted_list : {k v : Bytes} {w : Bool} {l : Level} {ls : List Outer} → InOrder call_end (quote (several k v w) l ls)
  finish_complete : {ms : List Mark} → InOrder call_finish (complete ms)
  abandon_between : {l : Level} {ls : List Outer} → InOrder call_abandon (between l ls)
  abandon_inside : {s : Spot} {rs : List Row} {l : Level} {ls : List Outer} → InOrder call_abandon (inside s rs l ls)
  abandon_quoted : {q : Quote} {l : Level} {ls : List Outer} → InOrder call_abandon (quote q l ls)
  abandon_complete : {ms : List Mark} → InOrder call_abandon (complete ms)

-- the one call that the third row alone bars: as a variant record the name for text would open a record at a content place
pub data TextRecord : Call → State → Type 0 where
  text_record : {v : Bytes} {p : Bool} {rs : List Row} {l : Level} {ls : List Outer} → is_text_name v ≡ true → TextRecord (call_value (val_variant_record v)) (inside (content p) rs l ls)

-- text comes to a content place that allows none: a string that is not empty, or the name for text around a value or a row
pub data TextBarred : Call → State → Type 0 where
  a_string : {r : Rule} {s : Bytes} {rs : List Row} {l : Level} {ls : List Outer} → s ≢ [] → TextBarred (call_value (val_text r s)) (inside (content false) rs l ls)
  text_wrapped : {v : Bytes} {rs : List Row} {l : Level} {ls : List Outer} → is_text_name v ≡ true → TextBarred (call_value (val_wrapped v)) (inside (content false) rs l ls)
  text_row : {v : Bytes} {rs : List Row} {l : Level} {ls : List Outer} → is_text_name v ≡ true → TextBarred (call_value (val_variant_row v)) (inside (content false) rs l ls)

-- the name of a tag or an attribute that a call brings, and how many bytes stand before it in its string
pub data Names : Call → State → ℕ → Bytes → Type 0 where
  root : {n : Bytes} {st : State} → Names (call_open n) st 0 n
  attribute : {k n : Bytes} {st : State} → key k ≡ key_attribute n → Names (call_field k) st 1 n
  child : {k n : Bytes} {st : State} → key k ≡ key_element n → Names (call_field k) st 0 n
  variant : {r : Rule} {n : Bytes} {p : Bool} {rs : List Row} {l : Level} {ls : List Outer} → is_text_name n ≡ false → Names (call_value (val_variant r n)) (inside (content p) rs l ls) 0 n
  wrapped : {n : Bytes} {p : Bool} {rs : List Row} {l : Level} {ls : List Outer} → is_text_name n ≡ false → Names (call_value (val_wrapped n)) (inside (content p) rs l ls) 0 n
  variant_row : {n : Bytes} {p : Bool} {rs : List Row} {l : Level} {ls : List Outer} → is_text_name n ≡ false → Names (call_value (val_variant_row n)) (inside (content p) rs l ls) 0 n
  a_record : {n : Bytes} {p : Bool} {rs : List Row} {l : Level} {ls : List Outer} → Names (call_value (val_record n)) (inside (content p) rs l ls) 0 n
  variant_record : {n : Bytes} {p : Bool} {rs : List Row} {l : Level} {ls : List Outer} → Names (call_value (val_variant_record n)) (inside (content p) rs l ls) 0 n

-- such a name is none, and its first character at fault is at this offset in the call's string
pub record Faulty (c : Call) (st : State) (at : ℕ) : Type 0 where
  pub before : ℕ
  pub name : Bytes
  pub offset : ℕ
  pub meant : Names c st before name
  pub fault : name_fault name ≡ Some offset
  pub counted : at ≡ before + offset

-- the rows against the steps, at a call and a state
pub record RowsMeetSteps (w : Setting) (room : ℕ) (c : Call) (st : State) : Type 0 where
  -- the first row bars all that is not in order, and that has no step
  pub order : Decides (allowed c st) (InOrder c st)
  pub no_step_there : out_of_order c st ≡ true → step w.form c st ≡ None
  -- what the third row bars has none either, but for one call
  pub no_step_so : misshapen c st ≡ true → (step w.form c st ≡ None) ⊎ TextRecord c st
  pub text_record_barred : TextRecord c st → misshapen c st ≡ true
  pub text_record_taken : TextRecord c st → (next : State) × (step w.form c st ≡ Some next)
  -- all else has one
  pub taken : out_of_order c st ≡ false → misshapen c st ≡ false → (next : State) × (step w.form c st ≡ Some next)
  -- the fourth row bars text where none is allowed, which has a step
  pub run_on : Decides (runs_on c st) (TextBarred c st)
  pub text_taken : TextBarred c st → (next : State) × (step w.form c st ≡ Some next)
  -- the fifth row bars what brings such a fault, at its offset
  pub name : (at : ℕ) → (misnamed c st ≡ Some at → Faulty c st at) × (Faulty c st at → misnamed c st ≡ Some at)
  -- what has a step meets no row but these seven, the one call apart
  pub other_grounds : (next : State) → step w.form c st ≡ Some next → (TextRecord c st → ⊥) →
      table w room c st ≡ None ∷ when (ill_formed c) (BytesAt (whole (string_of c))) ∷ None ∷ when (runs_on c st) RunOn ∷ fault_at (misnamed c st) ∷ when (stack_full w c st) Stack ∷ when (too_deep w c st) Depth ∷ when (stage_full w c st) Stage ∷ when (sink_full w room c st) Sink ∷ []

-- Rows and steps: at every call and state, with any memory and any room
abbrev pub RowsAndSteps : Type 0
RowsAndSteps = (w : Setting) (room : ℕ) (c : Call) (st : State) → RowsMeetSteps w room c st
