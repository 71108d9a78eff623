-- What an accepted call does: one clause for each row of the places. Assumes nothing.
use Rattle.std.specs.Prelude.{ℕ, suc, Bool, true, false, cond, not, ◌&&◌, ◌||◌, List, [], ◌∷◌, ◌++◌, length, Some, None, codes, Option}
use Rattle.style.specs.declared.result.WriteResult.{WriteResult}
use Rattle.style.specs.declared.result.WriteResult.TheVariants.{Element, Nothing, SensitiveText, SensitiveNothing}
use Rattle.style.specs.declared.style.EmptyElementHandling.{EmptyElementHandling}
use Rattle.style.specs.Results.{allows_indent}
use Rattle.xml.specs.declared.escape.Use.TheVariants.{Text as text_use, Attribute as attribute_use, TextItem as text_item_use, AttributeItem as attribute_item_use}
use Rattle.xml.specs.Escaping.{escaped}
use Rattle.reader.specs.Trees.{Bytes}
use Rattle.model.specs.Strings.{null}
use Rattle.model.specs.Calls.{Value, val_text, val_none, val_variant, val_wrapped, val_row, val_variant_row, val_record, val_variant_record, Call, call_open, call_field, call_value, call_end, call_finish, call_abandon, Key, key_attribute, key_text, key_value, key_element, key, is_text_name}
use Rattle.model.specs.Marks.{Mark, tagged, texted, less_than, shut, empty_element, text_element}
use Rattle.model.specs.Model.{Body, Level, Row, named_row, content_row, Outer, Spot, element, content, text_spot, simple, words, Quote, single, several, State, idle, between, inside, quote, complete, stack, flag, child_start, start}

-- the body with a tag written behind it
abbrev pub with_tag : Body → List Mark → Body
with_tag b ms = record { kids = b.kids ++ ms; flag = b.flag; wordy = false }

-- the body with a text's bytes behind it; no bytes leave it as it is
abbrev pub with_text : Body → Bytes → Body
with_text b s = record { kids = b.kids ++ texted s; flag = b.flag; wordy = not (null s) || b.wordy }

-- one space before an item, if an item was written before
abbrev pub gap : Bool → Bytes
gap w = cond w (codes " ") []

-- what a value does
pub data Move : Type 0 where
  -- it is complete, with this result
  done : WriteResult → Body → Move
  -- it wants more: the next value goes to this spot
  on : Spot → Body → Move
  opens_row : Row → Move
  -- a record opens: the name stack beneath its name, its name
  opens_record : Bytes → Bytes → Move

module _ (f : EmptyElementHandling) (d : ℕ) (rs : List Row) (b : Body) where
  -- an empty element behind the children
  abbrev pub empty_child : Bytes → Move
  empty_child n = done Element (with_tag b (child_start rs b d ∷ empty_element f n))

  -- an element around a text behind the children
  abbrev pub text_child : Bytes → Bytes → Move
  text_child n s = done Element (with_tag b (child_start rs b d ∷ text_element n s))

  -- at an element place; the name stack beneath the name, and the name
  abbrev pub put_element : Bytes → Bytes → Value → Option Move
  put_element u n (val_text r s) = Some (cond (null s) (empty_child n) (text_child n (escaped (r.chooses text_use) s)))
  put_element u n val_none = Some (empty_child n)
  put_element u n (val_variant r v) = Some (cond (is_text_name v) (empty_child n) (text_child n (escaped (r.chooses text_use) v)))
  put_element u n (val_wrapped v) = None
  put_element u n val_row = Some (opens_row (named_row u n (flag rs b)))
  put_element u n (val_variant_row v) = None
  put_element u n (val_record m) = Some (opens_record u n)
  put_element u n (val_variant_record v) = None

  -- at a content place; the name stack
  abbrev pub put_content : Bytes → Value → Option Move
  put_content t (val_text r s) = Some (done SensitiveText (with_text b (escaped (r.chooses text_use) s)))
  put_content t val_none = Some (done SensitiveNothing b)
  put_content t (val_variant r v) = Some (cond (is_text_name v) (done Nothing b) (empty_child v))
  put_content t (val_wrapped v) = Some (cond (is_text_name v) (on simple b) (on (element t v) b))
  put_content t val_row = Some (opens_row (content_row t SensitiveNothing (flag rs b)))
  put_content t (val_variant_row v) = Some (cond (is_text_name v) (on (words false) b) (opens_row (named_row t v (flag rs b))))
  put_content t (val_record n) = Some (opens_record t n)
  put_content t (val_variant_record v) = Some (opens_record t v)

-- at the text place of a text field: `$text` as a variant writes nothing
abbrev pub put_text : Body → Value → Option Move
put_text b (val_text r s) = Some (done SensitiveText (with_text b (escaped (r.chooses text_use) s)))
put_text b val_none = Some (done SensitiveText b)
put_text b (val_variant r v) = Some (done SensitiveText (with_text b (cond (is_text_name v) [] (escaped (r.chooses text_use) v))))
put_text b (val_wrapped v) = None
put_text b val_row = Some (on (words false) b)
put_text b (val_variant_row v) = None
put_text b (val_record n) = None
put_text b (val_variant_record v) = None

-- at the simple place: `$text` as a variant writes its five bytes
abbrev pub put_simple : Body → Value → Option Move
put_simple b (val_text r s) = Some (done SensitiveText (with_text b (escaped (r.chooses text_use) s)))
put_simple b val_none = Some (done SensitiveText b)
put_simple b (val_variant r v) = Some (done SensitiveText (with_text b (escaped (r.chooses text_use) v)))
put_simple b (val_wrapped v) = None
put_simple b val_row = Some (on (words false) b)
put_simple b (val_variant_row v) = None
put_simple b (val_record n) = None
put_simple b (val_variant_record v) = None

-- an item of a list, behind those written before; an empty one writes nothing
abbrev pub item : Bool → Body → (ℕ → Bool) → Bytes → Move
item w b chosen s = cond (null s) (on (words w) b) (on (words true) (with_text b (gap w ++ escaped chosen s)))

-- at the item place of a list that is a text
abbrev pub put_word : Bool → Body → Value → Option Move
put_word w b (val_text r s) = Some (item w b (r.chooses text_item_use) s)
put_word w b val_none = None
put_word w b (val_variant r v) = Some (item w b (r.chooses text_item_use) v)
put_word w b (val_wrapped v) = None
put_word w b val_row = None
put_word w b (val_variant_row v) = None
put_word w b (val_record n) = None
put_word w b (val_variant_record v) = None

-- the value's own spot decides
abbrev pub put : EmptyElementHandling → ℕ → List Row → Bytes → Body → Spot → Value → Option Move
put f d rs t b (element u n) v = put_element f d rs b u n v
put f d rs t b (content p) v = put_content f d rs b t v
put f d rs t b text_spot v = put_text b v
put f d rs t b simple v = put_simple b v
put f d rs t b (words w) v = put_word w b v

-- the record with another body
abbrev pub with_body : Level → Body → Level
with_body l b = record { under = l.under; name = l.name; attrs = l.attrs; body = b }

-- the body with another flag
abbrev pub with_flag : Body → Bool → Body
with_flag b g = record { kids = b.kids; flag = g; wordy = b.wordy }

-- a value with this result is complete: the innermost open thing takes note of it, and waits for its next field or item
abbrev pub settle : WriteResult → List Row → Level → List Outer → State
settle r [] l ls = between (with_body l (with_flag l.body (allows_indent r))) ls
settle r (named_row u n g ∷ rs) l ls = inside (element u n) (named_row u n true ∷ rs) l ls
settle r (content_row t last g ∷ rs) l ls = inside (content (not l.body.wordy)) (content_row t r (allows_indent r) ∷ rs) l ls

-- a row that has just opened waits for its first item
abbrev pub row_state : Row → List Row → Level → List Outer → State
row_state (named_row u n g) rs l ls = inside (element u n) (named_row u n g ∷ rs) l ls
row_state (content_row t last g) rs l ls = inside (content (not l.body.wordy)) (content_row t last g ∷ rs) l ls

-- a record that has just opened
abbrev pub new_level : Bytes → Bytes → Level
new_level u n = record { under = u; name = n; attrs = []; body = record { kids = []; flag = true; wordy = false } }

-- the state that a move leads to
abbrev pub moved : List Row → Level → List Outer → Move → State
moved rs l ls (done r b) = settle r rs (with_body l b) ls
moved rs l ls (on s b) = inside s rs (with_body l b) ls
moved rs l ls (opens_row r) = row_state r rs l ls
moved rs l ls (opens_record u n) = between (new_level u n) (record { level = l; rows = rs } ∷ ls)

-- the same where there is a move
abbrev pub moved_if : List Row → Level → List Outer → Option Move → Option State
moved_if rs l ls None = None
moved_if rs l ls (Some m) = Some (moved rs l ls m)

-- an attribute: a space, its name, and its value in quotes
abbrev pub attribute : Bytes → Bytes → Bytes
attribute k v = codes " " ++ (k ++ (codes "=\"" ++ (v ++ codes "\"")))

-- what a value does to an attribute: its value is complete, or its list goes on
pub data Quoted : Type 0 where
  closed : Bytes → Quoted
  still : Quote → Quoted

-- at the attribute place, by the name of the attribute
abbrev pub put_single : Bytes → Value → Option Quoted
put_single k (val_text r s) = Some (closed (attribute k (escaped (r.chooses attribute_use) s)))
put_single k val_none = Some (closed (attribute k []))
put_single k (val_variant r v) = Some (closed (attribute k (escaped (r.chooses attribute_use) v)))
put_single k (val_wrapped v) = None
put_single k val_row = Some (still (several k [] false))
put_single k (val_variant_row v) = None
put_single k (val_record n) = None
put_single k (val_variant_record v) = None

-- an item of an attribute's list, behind those written before; an empty one writes nothing
abbrev pub quoted_item : Bytes → Bytes → Bool → (ℕ → Bool) → Bytes → Quoted
quoted_item k v w chosen s = cond (null s) (still (several k v w)) (still (several k (v ++ (gap w ++ escaped chosen s)) true))

-- at the item place of a list that is an attribute's value
abbrev pub put_several : Bytes → Bytes → Bool → Value → Option Quoted
put_several k v w (val_text r s) = Some (quoted_item k v w (r.chooses attribute_item_use) s)
put_several k v w val_none = None
put_several k v w (val_variant r s) = Some (quoted_item k v w (r.chooses attribute_item_use) s)
put_several k v w (val_wrapped s) = None
put_several k v w val_row = None
put_several k v w (val_variant_row s) = None
put_several k v w (val_record n) = None
put_several k v w (val_variant_record s) = None

-- the attribute's own place decides
abbrev pub put_quote : Quote → Value → Option Quoted
put_quote (single k) v = put_single k v
put_quote (several k s w) v = put_several k s w v

-- the record with one more attribute in its tag
abbrev pub with_attribute : Level → Bytes → Level
with_attribute l a = record { under = l.under; name = l.name; attrs = l.attrs ++ a; body = l.body }

-- the state that an attribute's value leads to
abbrev pub requoted : Level → List Outer → Quoted → State
requoted l ls (closed a) = between (with_attribute l a) ls
requoted l ls (still q) = quote q l ls

-- the same where the value is taken
abbrev pub requoted_if : Level → List Outer → Option Quoted → Option State
requoted_if l ls None = None
requoted_if l ls (Some q) = Some (requoted l ls q)

-- there are no child bytes
abbrev pub no_kids : List Mark → Bool
no_kids [] = true
no_kids (m ∷ ms) = false

-- the end tag of a record behind its children, with the number of records around it
abbrev pub end_tag : ℕ → Level → List Mark
end_tag d l = less_than (l.body.flag && not l.body.wordy) d ∷ tagged (codes "/" ++ (l.name ++ codes ">"))

-- a record from its `<` on, as its end makes it: an empty tag where it has no child bytes, else its children between two tags
abbrev pub closed_record : EmptyElementHandling → ℕ → Mark → Level → List Mark
closed_record f d m l =
    m ∷ cond (no_kids l.body.kids) (tagged (l.name ++ (l.attrs ++ shut f l.name))) (tagged (l.name ++ (l.attrs ++ codes ">")) ++ (l.body.kids ++ end_tag d l))

-- the end of a record: the root is complete, and any other is an element in the record around it
abbrev pub close : EmptyElementHandling → Level → List Outer → State
close f l [] = complete (closed_record f 0 (start []) l)
close f l (o ∷ os) =
    settle Element o.rows (with_body o.level (with_tag o.level.body (closed_record f (length (o ∷ os)) (start (o ∷ os)) l))) os

-- the end of a row or a list
abbrev pub leave : Spot → List Row → Level → List Outer → Option State
leave (element u n) [] l ls = None
leave (element u n) (named_row t m g ∷ rs) l ls = Some (settle Element rs l ls)
leave (element u n) (content_row t r g ∷ rs) l ls = None
leave (content p) [] l ls = None
leave (content p) (named_row t m g ∷ rs) l ls = None
leave (content p) (content_row t r g ∷ rs) l ls = Some (settle r rs l ls)
leave text_spot rs l ls = None
leave simple rs l ls = None
leave (words w) rs l ls = Some (settle SensitiveText rs l ls)

-- the end of an attribute's list completes the attribute
abbrev pub leave_quote : Quote → Level → List Outer → Option State
leave_quote (single k) l ls = None
leave_quote (several k v w) l ls = Some (between (with_attribute l (attribute k v)) ls)

-- a field begins: its key says where its value goes
abbrev pub field : Key → Level → List Outer → State
field (key_attribute k) l ls = quote (single k) l ls
field key_text l ls = inside text_spot [] l ls
field key_value l ls = inside (content true) [] l ls
field (key_element n) l ls = inside (element (stack [] l) n) [] l ls

-- the state after a call, where the places say what the call does
abbrev pub step : EmptyElementHandling → Call → State → Option State
step f (call_open n) idle = Some (between (new_level [] n) [])
step f (call_open n) (between l ls) = None
step f (call_open n) (inside s rs l ls) = None
step f (call_open n) (quote q l ls) = None
step f (call_open n) (complete ms) = None
step f (call_field k) idle = None
step f (call_field k) (between l ls) = Some (field (key k) l ls)
step f (call_field k) (inside s rs l ls) = None
step f (call_field k) (quote q l ls) = None
step f (call_field k) (complete ms) = None
step f (call_value v) idle = None
step f (call_value v) (between l ls) = None
step f (call_value v) (inside s rs l ls) = moved_if rs l ls (put f (suc (length ls)) rs (stack rs l) l.body s v)
step f (call_value v) (quote q l ls) = requoted_if l ls (put_quote q v)
step f (call_value v) (complete ms) = None
step f call_end idle = None
step f call_end (between l ls) = Some (close f l ls)
step f call_end (inside s rs l ls) = leave s rs l ls
step f call_end (quote q l ls) = leave_quote q l ls
step f call_end (complete ms) = None
step f call_finish idle = None
step f call_finish (between l ls) = None
step f call_finish (inside s rs l ls) = None
step f call_finish (quote q l ls) = None
step f call_finish (complete ms) = Some idle
step f call_abandon idle = None
step f call_abandon (between l ls) = Some idle
step f call_abandon (inside s rs l ls) = Some idle
step f call_abandon (quote q l ls) = Some idle
step f call_abandon (complete ms) = Some idle
