-- Which tags have an indent, and what each call does to the flags that say so. Assumes nothing.
use Rattle.std.specs.Prelude.{◌≡◌, ℕ, suc, Bool, true, false, cond, not, ◌&&◌, ◌⊎◌, List, [], ◌∷◌, ◌++◌, length, Some, None, codes, Decides, Option}
use Rattle.style.specs.declared.indentation.Indentation.{Indentation}
use Rattle.style.specs.declared.result.WriteResult.{WriteResult}
use Rattle.style.specs.declared.result.WriteResult.TheVariants.{Element, Nothing, SensitiveText, SensitiveNothing}
use Rattle.style.specs.declared.style.EmptyElementHandling.{EmptyElementHandling}
use Rattle.style.specs.Results.{allows_indent}
use Rattle.reader.specs.Trees.{Bytes}
use Rattle.model.specs.Calls.{Value, val_text, val_none, val_variant, val_wrapped, val_row, val_variant_row, val_record, val_variant_record, Call, call_open, call_field, call_value, call_end, call_finish, call_abandon, is_text_name}
use Rattle.model.specs.Marks.{Mark, tag_byte, text_byte, lead, tagged, texted, less_than, flatten, shut, empty_element, text_element}
use Rattle.model.specs.Model.{Level, Row, named_row, content_row, Outer, Spot, element, content, text_spot, simple, words, Quote, State, idle, between, inside, quote, complete, start}
use Rattle.model.specs.Step.{step, no_kids}
use Rattle.model.specs.Layout.{stage, pending, records, wordy}
use Rattle.model.specs.Table.{Setting}
use Rattle.model.specs.Run.{new, run}

-- the open tag of a record
abbrev pub open_marks : Level → List Outer → List Mark
open_marks l ls = start ls ∷ tagged (l.name ++ l.attrs)

-- the records around the innermost one, each as its open tag and its children so far
abbrev pub around : List Outer → List Mark
around [] = []
around (o ∷ os) = around os ++ (open_marks o.level os ++ o.level.body.kids)

-- the same with the innermost one; `a` is what stands of an attribute, at the end of its tag
abbrev pub sheet : Level → List Outer → Bytes → List Mark
sheet l ls a = around ls ++ (open_marks l ls ++ (tagged a ++ l.body.kids))

-- what is written so far, from the root's start tag on
abbrev pub written : State → List Mark
written idle = []
written (between l ls) = sheet l ls []
written (inside s rs l ls) = sheet l ls []
written (quote q l ls) = sheet l ls (pending q)
written (complete ms) = ms

-- whether a text's byte stands last in marks, or where there are none, t
abbrev pub text_last : Bool → List Mark → Bool
text_last t [] = t
text_last t (tag_byte b ∷ ms) = text_last false ms
text_last t (text_byte b ∷ ms) = text_last true ms
text_last t (lead d ∷ ms) = text_last false ms

-- the flag of the innermost row, or where no row is open that of the record
abbrev pub innermost_flag : List Row → Bool → Bool
innermost_flag [] g = g
innermost_flag (named_row u n g ∷ rs) h = g
innermost_flag (content_row t r g ∷ rs) h = g

-- the flag of the innermost open record or row
abbrev pub flag_of : State → Bool
flag_of idle = false
flag_of (between l ls) = l.body.flag
flag_of (inside s rs l ls) = innermost_flag rs l.body.flag
flag_of (quote q l ls) = l.body.flag
flag_of (complete ms) = false

-- an indent is due: that flag is true, and no text's bytes stand last
abbrev pub due : State → Bool
due st = flag_of st && not (wordy st)

-- what a value among the children may write, where m is the `<` of its tag
pub data Piece (m : Mark) : List Mark → Type 0 where
  -- a text, or nothing
  a_text : (s : Bytes) → Piece m (texted s)
  -- a start tag, which stays open
  a_start_tag : (n : Bytes) → Piece m (m ∷ tagged n)
  an_empty_tag : (f : EmptyElementHandling) (n : Bytes) → Piece m (m ∷ empty_element f n)
  -- an element around a text
  an_element : (n s : Bytes) → Piece m (m ∷ text_element n s)

-- what is written once a call was accepted: the `<` of a record's start or end tag, and of any other child's, has an indent exactly
-- where one was due before the call, and the root's start tag has none
pub data Writes (f : EmptyElementHandling) : Call → State → List Mark → Type 0 where
  root_tag : {n : Bytes} → Writes f (call_open n) idle (tag_byte 60 ∷ tagged n)
  -- a value goes behind all that is written
  child_behind : {v : Value} {s : Spot} {rs : List Row} {l : Level} {ls : List Outer} {ms : List Mark} → Piece (less_than (due (inside s rs l ls)) (suc (length ls))) ms → Writes f (call_value v) (inside s rs l ls) (written (inside s rs l ls) ++ ms)
  -- the end of a record with children: `>` before them, and the end tag behind them
  record_ends : {l : Level} {ls : List Outer} → no_kids l.body.kids ≡ false →
      Writes f call_end (between l ls) (around ls ++ (open_marks l ls ++ (tagged (codes ">") ++ (l.body.kids ++ (less_than (due (between l ls)) (length ls) ∷ tagged (codes "/" ++ (l.name ++ codes ">")))))))
  -- the end of a record without any
  empty_record_ends : {l : Level} {ls : List Outer} → no_kids l.body.kids ≡ true → Writes f call_end (between l ls) (around ls ++ (open_marks l ls ++ tagged (shut f l.name)))
  -- the end of a row or of a list among the children
  row_ends : {s : Spot} {rs : List Row} {l : Level} {ls : List Outer} → Writes f call_end (inside s rs l ls) (written (inside s rs l ls))
  -- an attribute goes to the end of the open tag, before the children
  field_begins : {k : Bytes} {l : Level} {ls : List Outer} (a : Bytes) → Writes f (call_field k) (between l ls) (sheet l ls a)
  attribute_grows : {v : Value} {q : Quote} {l : Level} {ls : List Outer} (a : Bytes) → Writes f (call_value v) (quote q l ls) (sheet l ls a)
  attribute_ends : {q : Quote} {l : Level} {ls : List Outer} (a : Bytes) → Writes f call_end (quote q l ls) (sheet l ls a)
  finishes : {ms : List Mark} → Writes f call_finish (complete ms) []
  abandons : {st : State} → Writes f call_abandon st []

-- the result of a child that a value completes, where that is always this one: text, none and variants complete one, and all others
-- want further calls
abbrev pub at_once : WriteResult → Value → Option WriteResult
at_once q (val_text r s) = Some q
at_once q val_none = Some q
at_once q (val_variant r v) = Some q
at_once q (val_wrapped v) = None
at_once q val_row = None
at_once q (val_variant_row v) = None
at_once q (val_record n) = None
at_once q (val_variant_record v) = None

-- at a content place
abbrev pub content_result : Value → Option WriteResult
content_result (val_text r s) = Some SensitiveText
content_result val_none = Some SensitiveNothing
content_result (val_variant r v) = Some (cond (is_text_name v) Nothing Element)
content_result (val_wrapped v) = None
content_result val_row = None
content_result (val_variant_row v) = None
content_result (val_record n) = None
content_result (val_variant_record v) = None

-- an element, a child of its own kind, a text, or an item of a list, which completes none
abbrev pub value_result : Spot → Value → Option WriteResult
value_result (element u n) v = at_once Element v
value_result (content p) v = content_result v
value_result text_spot v = at_once SensitiveText v
value_result simple v = at_once SensitiveText v
value_result (words w) v = None

-- the end of a content row gives the last item's result
abbrev pub row_result : List Row → Option WriteResult
row_result [] = None
row_result (named_row u n g ∷ rs) = Some Element
row_result (content_row t r g ∷ rs) = Some r

-- the end of a list is that of a text
abbrev pub end_result : Spot → List Row → Option WriteResult
end_result (element u n) rs = row_result rs
end_result (content p) rs = row_result rs
end_result text_spot rs = None
end_result simple rs = None
end_result (words w) rs = Some SensitiveText

-- the end of the root completes no child
abbrev pub record_result : List Outer → Option WriteResult
record_result [] = None
record_result (o ∷ os) = Some Element

-- the same at each state
abbrev pub value_result_at : Value → State → Option WriteResult
value_result_at v idle = None
value_result_at v (between l ls) = None
value_result_at v (inside s rs l ls) = value_result s v
value_result_at v (quote q l ls) = None
value_result_at v (complete ms) = None

abbrev pub end_result_at : State → Option WriteResult
end_result_at idle = None
end_result_at (between l ls) = record_result ls
end_result_at (inside s rs l ls) = end_result s rs
end_result_at (quote q l ls) = None
end_result_at (complete ms) = None

-- the result of the child that an accepted call completes, if it completes one
abbrev pub result : Call → State → Option WriteResult
result (call_open n) st = None
result (call_field k) st = None
result (call_value v) st = value_result_at v st
result call_end st = end_result_at st
result call_finish st = None
result call_abandon st = None

-- the innermost open thing behind a child that is complete with this result: the flag of a record or a content row is true exactly
-- for results that an indent may follow, and a content row keeps the result; a named row has true
pub data Notes (r : WriteResult) : State → Type 0 where
  in_record : {l : Level} {ls : List Outer} → l.body.flag ≡ allows_indent r → Notes r (between l ls)
  in_content_row : {s : Spot} {t : Bytes} {rs : List Row} {l : Level} {ls : List Outer} → Notes r (inside s (content_row t r (allows_indent r) ∷ rs) l ls)
  in_named_row : {s : Spot} {u n : Bytes} {rs : List Row} {l : Level} {ls : List Outer} → Notes r (inside s (named_row u n true ∷ rs) l ls)

-- what an accepted call does to the flag
pub record FlagsFollow (c : Call) (st next : State) : Type 0 where
  -- a record that has just opened has true
  pub opened : records next ≡ suc (records st) → flag_of next ≡ true
  -- a child is complete
  pub noted : (r : WriteResult) → result c st ≡ Some r → Notes r next
  -- nothing else changes it: not a field or an attribute, and a row that has just opened has its place's flag
  pub kept : records next ≡ records st → result c st ≡ None → flag_of next ≡ flag_of st

-- the words that these sentences use: an indent is a mark, and it may follow just two results
pub record WordsOfIndents : Type 0 where
  pub with_indent : (d : ℕ) → less_than true d ≡ lead d
  pub without : (d : ℕ) → less_than false d ≡ tag_byte 60
  pub followed : (r : WriteResult) → Decides (allows_indent r) ((r ≡ Element) ⊎ (r ≡ Nothing))

-- what is written is what the stage holds, laid out; each accepted call, at any state, writes an indent exactly where one is due, and
-- the flags follow from the calls. A content row that ends at once has the result SensitiveNothing
pub record DueIndents (f : EmptyElementHandling) : Type 0 where
  pub laid_out : (i : Option Indentation) (st : State) → flatten i (written st) ≡ stage i st
  pub writes : (c : Call) (st next : State) → step f c st ≡ Some next → Writes f c st (written next)
  pub flags : (c : Call) (st next : State) → step f c st ≡ Some next → FlagsFollow c st next
  pub empty_row : (p : Bool) (rs : List Row) (l : Level) (ls : List Outer) (next : State) → step f (call_value val_row) (inside (content p) rs l ls) ≡ Some next → result call_end next ≡ Some SensitiveNothing

-- in a run `wordy` says whether a text's byte stands last in what is written
abbrev pub WordyAfterTexts : Type 0
WordyAfterTexts = (w : Setting) (cs : List Call) (r : ℕ) → wordy (run w cs (new r)).model ≡ text_last false (written (run w cs (new r)).model)

-- Which tags have an indent: those before which one is due, by a flag that follows from the calls, and by the marks
abbrev pub IndentsWhereDue : Type 0
IndentsWhereDue = ((f : EmptyElementHandling) → DueIndents f) × WordyAfterTexts × WordsOfIndents
