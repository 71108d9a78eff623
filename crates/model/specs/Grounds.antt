-- The grounds of the first five rows of the table of refusals, which lie in the call and the place that it comes to. Assumes nothing.
use Rattle.std.specs.Prelude.{ℕ, ◌+◌, Bool, true, false, cond, not, ◌&&◌, List, [], ◌∷◌, Some, None, Option}
use Rattle.xml.specs.Names.{name_fault}
use Rattle.model.specs.declared.place.Place.{Place}
use Rattle.model.specs.declared.place.Place.TheVariants.{Idle, Field, Element, Content, Text, Simple, Attribute, TextItem, AttributeItem, Complete}
use Rattle.model.specs.declared.frame.Kind.{Kind}
use Rattle.model.specs.declared.frame.Kind.TheVariants.{Record as record_kind, Named as named_kind, Content as content_kind, List as list_kind}
use Rattle.reader.specs.Trees.{Bytes}
use Rattle.model.specs.Strings.{null, utf8}
use Rattle.model.specs.Calls.{Value, val_text, val_none, val_variant, val_wrapped, val_row, val_variant_row, val_record, val_variant_record, Call, call_open, call_field, call_value, call_end, call_finish, call_abandon, Key, key_attribute, key_text, key_value, key_element, key, is_text_name}
use Rattle.model.specs.Model.{Row, named_row, content_row, Spot, element, content, text_spot, simple, words, Quote, single, several, State, idle, between, inside, quote, complete, place}

-- 1, Order: the call is not allowed at this place. Places come in four sorts, of which a call is for one or more
pub data Sort : Type 0 where
  idle_sort : Sort
  field_sort : Sort
  value_sort : Sort
  complete_sort : Sort

-- the sort of each place
abbrev pub sort : Place → Sort
sort Idle = idle_sort
sort Field = field_sort
sort (Element u) = value_sort
sort (Content p) = value_sort
sort Text = value_sort
sort Simple = value_sort
sort Attribute = value_sort
sort (TextItem w) = value_sort
sort (AttributeItem w) = value_sort
sort Complete = complete_sort

-- the place is idle
abbrev pub is_idle : Sort → Bool
is_idle idle_sort = true
is_idle field_sort = false
is_idle value_sort = false
is_idle complete_sort = false

-- the place is the field place
abbrev pub is_field : Sort → Bool
is_field idle_sort = false
is_field field_sort = true
is_field value_sort = false
is_field complete_sort = false

-- the place is one of the six that take a value
abbrev pub is_value : Sort → Bool
is_value idle_sort = false
is_value field_sort = false
is_value value_sort = true
is_value complete_sort = false

-- the record is complete
abbrev pub is_complete : Sort → Bool
is_complete idle_sort = false
is_complete field_sort = false
is_complete value_sort = false
is_complete complete_sort = true

-- the innermost open thing of a record, by its open rows
abbrev pub innermost_row : List Row → Kind
innermost_row [] = record_kind
innermost_row (named_row u n g ∷ rs) = named_kind
innermost_row (content_row t r g ∷ rs) = content_kind

-- a list is always the innermost thing, and holds no other
abbrev pub innermost_spot : Spot → List Row → Kind
innermost_spot (element u n) rs = innermost_row rs
innermost_spot (content p) rs = innermost_row rs
innermost_spot text_spot rs = innermost_row rs
innermost_spot simple rs = innermost_row rs
innermost_spot (words w) rs = list_kind

-- an attribute's own list likewise
abbrev pub innermost_quote : Quote → Kind
innermost_quote (single k) = record_kind
innermost_quote (several k v w) = list_kind

-- the innermost thing that is open, if any is
abbrev pub innermost : State → Option Kind
innermost idle = None
innermost (between l ls) = Some record_kind
innermost (inside s rs l ls) = Some (innermost_spot s rs)
innermost (quote q l ls) = Some (innermost_quote q)
innermost (complete ms) = None

-- it is a record
abbrev pub is_record_kind : Kind → Bool
is_record_kind record_kind = true
is_record_kind named_kind = false
is_record_kind content_kind = false
is_record_kind list_kind = false

-- it is a row whose items are elements of one name
abbrev pub is_named_kind : Kind → Bool
is_named_kind record_kind = false
is_named_kind named_kind = true
is_named_kind content_kind = false
is_named_kind list_kind = false

-- it is a row among the children
abbrev pub is_content_kind : Kind → Bool
is_content_kind record_kind = false
is_content_kind named_kind = false
is_content_kind content_kind = true
is_content_kind list_kind = false

-- it is a list
abbrev pub is_list_kind : Kind → Bool
is_list_kind record_kind = false
is_list_kind named_kind = false
is_list_kind content_kind = false
is_list_kind list_kind = true

-- the next field or item of such a thing goes to this place, so it has not begun
abbrev pub before_next : Place → Kind → Bool
before_next Idle k = false
before_next Field k = is_record_kind k
before_next (Element u) k = is_named_kind k
before_next (Content p) k = is_content_kind k
before_next Text k = false
before_next Simple k = false
before_next Attribute k = false
before_next (TextItem w) k = is_list_kind k
before_next (AttributeItem w) k = is_list_kind k
before_next Complete k = false

-- end is for the field place, and for a row or a list whose next item has not begun
abbrev pub may_end : Place → Option Kind → Bool
may_end p None = false
may_end p (Some k) = before_next p k

-- open is for the idle place, field for the field place, finish for a complete record, abandon for any place but idle
abbrev pub allowed : Call → State → Bool
allowed (call_open n) st = is_idle (sort (place st))
allowed (call_field k) st = is_field (sort (place st))
allowed (call_value v) st = is_value (sort (place st))
allowed call_end st = may_end (place st) (innermost st)
allowed call_finish st = is_complete (sort (place st))
allowed call_abandon st = not (is_idle (sort (place st)))

-- the ground of the first row
abbrev pub out_of_order : Call → State → Bool
out_of_order c st = not (allowed c st)

-- 2, Bytes: its string, key, name or variant is not well-formed UTF-8. What a value brings, used or not
abbrev pub value_string : Value → Bytes
value_string (val_text r s) = s
value_string val_none = []
value_string (val_variant r v) = v
value_string (val_wrapped v) = v
value_string val_row = []
value_string (val_variant_row v) = v
value_string (val_record n) = n
value_string (val_variant_record v) = v

-- the string that a call brings; one that brings none has the empty one
abbrev pub string_of : Call → Bytes
string_of (call_open n) = n
string_of (call_field k) = k
string_of (call_value v) = value_string v
string_of call_end = []
string_of call_finish = []
string_of call_abandon = []

-- the ground of the second row
abbrev pub ill_formed : Call → Bool
ill_formed c = not (utf8 (string_of c))

-- 3, Shape: the place does not take this kind of value. An element place takes text, none, variants, rows and records
abbrev pub no_element : Value → Bool
no_element (val_text r s) = false
no_element val_none = false
no_element (val_variant r v) = false
no_element (val_wrapped v) = true
no_element val_row = false
no_element (val_variant_row v) = true
no_element (val_record n) = false
no_element (val_variant_record v) = true

-- a content place takes every kind, but no variant record of the name for text
abbrev pub no_content : Value → Bool
no_content (val_text r s) = false
no_content val_none = false
no_content (val_variant r v) = false
no_content (val_wrapped v) = false
no_content val_row = false
no_content (val_variant_row v) = false
no_content (val_record n) = false
no_content (val_variant_record v) = is_text_name v

-- text, simple and attribute places take text, none, variants and rows
abbrev pub no_text : Value → Bool
no_text (val_text r s) = false
no_text val_none = false
no_text (val_variant r v) = false
no_text (val_wrapped v) = true
no_text val_row = false
no_text (val_variant_row v) = true
no_text (val_record n) = true
no_text (val_variant_record v) = true

-- an item is a text or a variant
abbrev pub no_item : Value → Bool
no_item (val_text r s) = false
no_item val_none = true
no_item (val_variant r v) = false
no_item (val_wrapped v) = true
no_item val_row = true
no_item (val_variant_row v) = true
no_item (val_record n) = true
no_item (val_variant_record v) = true

-- the place does not take such a value
abbrev pub misfit : Value → Place → Bool
misfit v Idle = false
misfit v Field = false
misfit v (Element u) = no_element v
misfit v (Content p) = no_content v
misfit v Text = no_text v
misfit v Simple = no_text v
misfit v Attribute = no_text v
misfit v (TextItem w) = no_item v
misfit v (AttributeItem w) = no_item v
misfit v Complete = false

-- the ground of the third row
abbrev pub misshapen : Call → State → Bool
misshapen (call_open n) st = false
misshapen (call_field k) st = false
misshapen (call_value v) st = misfit v (place st)
misshapen call_end st = false
misshapen call_finish st = false
misshapen call_abandon st = false

-- 4, Run-on: text comes to a content place that allows none. Empty text is none, and the name for text announces text
abbrev pub is_text : Value → Bool
is_text (val_text r s) = not (null s)
is_text val_none = false
is_text (val_variant r v) = false
is_text (val_wrapped v) = is_text_name v
is_text val_row = false
is_text (val_variant_row v) = is_text_name v
is_text (val_record n) = false
is_text (val_variant_record v) = false

-- the place is a content place that allows no text
abbrev pub text_barred : Place → Bool
text_barred Idle = false
text_barred Field = false
text_barred (Element u) = false
text_barred (Content p) = not p
text_barred Text = false
text_barred Simple = false
text_barred Attribute = false
text_barred (TextItem w) = false
text_barred (AttributeItem w) = false
text_barred Complete = false

-- the ground of the fourth row
abbrev pub runs_on : Call → State → Bool
runs_on (call_open n) st = false
runs_on (call_field k) st = false
runs_on (call_value v) st = is_text v && text_barred (place st)
runs_on call_end st = false
runs_on call_finish st = false
runs_on call_abandon st = false

-- 5, Name: a name meant for a tag or an attribute is no name. The offset of its first character at fault, behind n bytes more
abbrev pub behind : ℕ → Option ℕ → Option ℕ
behind n None = None
behind n (Some k) = Some (n + k)

-- the '@' is counted
abbrev pub key_fault : Key → Option ℕ
key_fault (key_attribute k) = behind 1 (name_fault k)
key_fault key_text = None
key_fault key_value = None
key_fault (key_element n) = name_fault n

-- what a content place takes for the name of a tag; `$text` is none where it stands for text
abbrev pub content_fault : Value → Option ℕ
content_fault (val_text r s) = None
content_fault val_none = None
content_fault (val_variant r v) = cond (is_text_name v) None (name_fault v)
content_fault (val_wrapped v) = cond (is_text_name v) None (name_fault v)
content_fault val_row = None
content_fault (val_variant_row v) = cond (is_text_name v) None (name_fault v)
content_fault (val_record n) = name_fault n
content_fault (val_variant_record v) = name_fault v

-- only a content place takes names from values
abbrev pub value_fault : Value → Place → Option ℕ
value_fault v Idle = None
value_fault v Field = None
value_fault v (Element u) = None
value_fault v (Content p) = content_fault v
value_fault v Text = None
value_fault v Simple = None
value_fault v Attribute = None
value_fault v (TextItem w) = None
value_fault v (AttributeItem w) = None
value_fault v Complete = None

-- the ground of the fifth row, and its offset
abbrev pub misnamed : Call → State → Option ℕ
misnamed (call_open n) st = name_fault n
misnamed (call_field k) st = key_fault (key k)
misnamed (call_value v) st = value_fault v (place st)
misnamed call_end st = None
misnamed call_finish st = None
misnamed call_abandon st = None
