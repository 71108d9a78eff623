-- What records say: trees, built from the calls and their answers alone. It has its own view of what is open, and
-- shares no rule with the writer. Assumes nothing.
use Rattle.std.specs.Prelude.{cond, List, [], ◌∷◌, ◌++◌, codes}
use Rattle.reader.specs.Trees.{Bytes, Attributes, Nodes, done, text, elem, Tree, before, tidy, ◌⧺◌}
use Rattle.model.specs.Calls.{Value, val_text, val_none, val_variant, val_wrapped, val_row, val_variant_row, val_record, val_variant_record, Call, call_open, call_field, call_value, call_end, call_finish, call_abandon, Answer, accepted, refused, Key, key_attribute, key_text, key_value, key_element, key, is_text_name}

-- an open row: each item is an element of this name, or the items stand as they are
pub data Items : Type 0 where
  elements : Bytes → Items
  mixed : Items

-- an element that is begun: its children in the order of their calls, not yet joined to one text where texts meet
pub record Part : Type 0 where
  pub name : Bytes
  pub attrs : Attributes
  pub kids : Nodes
  pub rows : List Items

-- what the next value is to become
pub data Slot : Type 0 where
  -- no value is due, but a field
  no_value : Slot
  an_element : Bytes → Slot
  a_child : Slot
  -- the text of a text field
  a_text : Slot
  -- a text in place of a wrapped value
  a_simple : Slot
  -- one more item of a list
  a_word : List Bytes → Slot
  an_attribute : Bytes → Slot
  a_value_word : Bytes → List Bytes → Slot

-- nothing is open; elements are begun, the innermost first; the record is over
pub data Said : Type 0 where
  nothing : Said
  during : Slot → Part → List Part → Said
  over : Tree → Said

-- the slot of the next item, or of no value where the next field is due
abbrev pub next_slot : List Items → Slot
next_slot [] = no_value
next_slot (elements n ∷ rs) = an_element n
next_slot (mixed ∷ rs) = a_child

-- an element with nothing said of it yet
abbrev pub begin : Bytes → Part
begin n = record { name = n; attrs = []; kids = done; rows = [] }

-- a list says its non-empty items joined by one space
abbrev pub spaced : Bytes → Bytes → Bytes
spaced [] rest = rest
spaced (b ∷ bs) [] = b ∷ bs
spaced (b ∷ bs) (c ∷ cs) = (b ∷ bs) ++ (codes " " ++ (c ∷ cs))

-- what the items of a list say
abbrev pub list_text : List Bytes → Bytes
list_text [] = []
list_text (s ∷ ss) = spaced s (list_text ss)

-- a value is said: its nodes stand behind the children so far
abbrev pub adds : Part → List Part → Nodes → Said
adds p ps ns = during (next_slot p.rows) (record { name = p.name; attrs = p.attrs; kids = p.kids ⧺ ns; rows = p.rows }) ps

-- a row opens
abbrev pub opens_row : Part → List Part → Items → Said
opens_row p ps r = during (next_slot (r ∷ p.rows)) (record { name = p.name; attrs = p.attrs; kids = p.kids; rows = r ∷ p.rows }) ps

-- one more value is due
abbrev pub waits : Part → List Part → Slot → Said
waits p ps s = during s p ps

-- an element begins in another
abbrev pub begins : Part → List Part → Bytes → Said
begins p ps n = during no_value (begin n) (p ∷ ps)

-- the open element gets an attribute, behind those it has
abbrev pub gets_attribute : Part → List Part → Bytes → Bytes → Said
gets_attribute p ps k v = during (next_slot p.rows) (record { name = p.name; attrs = p.attrs ++ ((k, v) ∷ []); kids = p.kids; rows = p.rows }) ps

module _ (p : Part) (ps : List Part) where
  -- an element around a text
  abbrev pub text_elem : Bytes → Bytes → Said
  text_elem n s = adds p ps (elem n [] (before s done) done)

  -- an empty element
  abbrev pub empty_elem : Bytes → Said
  empty_elem n = adds p ps (elem n [] done done)

  -- a value that becomes an element
  abbrev pub says_element : Bytes → Value → Said
  says_element n (val_text r s) = text_elem n s
  says_element n val_none = empty_elem n
  says_element n (val_variant r v) = cond (is_text_name v) (empty_elem n) (text_elem n v)
  says_element n (val_wrapped v) = waits p ps (an_element n)
  says_element n val_row = opens_row p ps (elements n)
  says_element n (val_variant_row v) = waits p ps (an_element n)
  says_element n (val_record m) = begins p ps n
  says_element n (val_variant_record v) = waits p ps (an_element n)

  -- a value among the children
  abbrev pub says_child : Value → Said
  says_child (val_text r s) = adds p ps (text s done)
  says_child val_none = adds p ps done
  says_child (val_variant r v) = cond (is_text_name v) (adds p ps done) (empty_elem v)
  says_child (val_wrapped v) = waits p ps (cond (is_text_name v) a_simple (an_element v))
  says_child val_row = opens_row p ps mixed
  says_child (val_variant_row v) = cond (is_text_name v) (waits p ps (a_word [])) (opens_row p ps (elements v))
  says_child (val_record n) = begins p ps n
  says_child (val_variant_record v) = begins p ps v

  -- the value of a text field
  abbrev pub says_text : Value → Said
  says_text (val_text r s) = adds p ps (text s done)
  says_text val_none = adds p ps done
  says_text (val_variant r v) = adds p ps (cond (is_text_name v) done (text v done))
  says_text (val_wrapped v) = waits p ps a_text
  says_text val_row = waits p ps (a_word [])
  says_text (val_variant_row v) = waits p ps a_text
  says_text (val_record n) = waits p ps a_text
  says_text (val_variant_record v) = waits p ps a_text

  -- a text in place of a wrapped value
  abbrev pub says_simple : Value → Said
  says_simple (val_text r s) = adds p ps (text s done)
  says_simple val_none = adds p ps done
  says_simple (val_variant r v) = adds p ps (text v done)
  says_simple (val_wrapped v) = waits p ps a_simple
  says_simple val_row = waits p ps (a_word [])
  says_simple (val_variant_row v) = waits p ps a_simple
  says_simple (val_record n) = waits p ps a_simple
  says_simple (val_variant_record v) = waits p ps a_simple

  -- an item of a list
  abbrev pub says_word : List Bytes → Value → Said
  says_word ws (val_text r s) = waits p ps (a_word (ws ++ (s ∷ [])))
  says_word ws val_none = waits p ps (a_word ws)
  says_word ws (val_variant r v) = waits p ps (a_word (ws ++ (v ∷ [])))
  says_word ws (val_wrapped v) = waits p ps (a_word ws)
  says_word ws val_row = waits p ps (a_word ws)
  says_word ws (val_variant_row v) = waits p ps (a_word ws)
  says_word ws (val_record n) = waits p ps (a_word ws)
  says_word ws (val_variant_record v) = waits p ps (a_word ws)

  -- the value of an attribute
  abbrev pub says_attribute : Bytes → Value → Said
  says_attribute k (val_text r s) = gets_attribute p ps k s
  says_attribute k val_none = gets_attribute p ps k []
  says_attribute k (val_variant r v) = gets_attribute p ps k v
  says_attribute k (val_wrapped v) = waits p ps (an_attribute k)
  says_attribute k val_row = waits p ps (a_value_word k [])
  says_attribute k (val_variant_row v) = waits p ps (an_attribute k)
  says_attribute k (val_record n) = waits p ps (an_attribute k)
  says_attribute k (val_variant_record v) = waits p ps (an_attribute k)

  -- an item of an attribute's list
  abbrev pub says_value_word : Bytes → List Bytes → Value → Said
  says_value_word k ws (val_text r s) = waits p ps (a_value_word k (ws ++ (s ∷ [])))
  says_value_word k ws val_none = waits p ps (a_value_word k ws)
  says_value_word k ws (val_variant r v) = waits p ps (a_value_word k (ws ++ (v ∷ [])))
  says_value_word k ws (val_wrapped v) = waits p ps (a_value_word k ws)
  says_value_word k ws val_row = waits p ps (a_value_word k ws)
  says_value_word k ws (val_variant_row v) = waits p ps (a_value_word k ws)
  says_value_word k ws (val_record n) = waits p ps (a_value_word k ws)
  says_value_word k ws (val_variant_record v) = waits p ps (a_value_word k ws)

  -- a value, by what it is to become
  abbrev pub says_value : Slot → Value → Said
  says_value no_value v = waits p ps no_value
  says_value (an_element n) v = says_element n v
  says_value a_child v = says_child v
  says_value a_text v = says_text v
  says_value a_simple v = says_simple v
  says_value (a_word ws) v = says_word ws v
  says_value (an_attribute k) v = says_attribute k v
  says_value (a_value_word k ws) v = says_value_word k ws v

  -- a field, by its key
  abbrev pub says_field : Key → Said
  says_field (key_attribute k) = waits p ps (an_attribute k)
  says_field key_text = waits p ps a_text
  says_field key_value = waits p ps a_child
  says_field (key_element n) = waits p ps (an_element n)

-- an element with its texts joined
abbrev pub tree : Part → Tree
tree p = record { name = p.name; attrs = p.attrs; kids = tidy p.kids }

-- an element closes: it is the root, or a child of the one around it
abbrev pub closes_element : Part → List Part → Said
closes_element p [] = over (tree p)
closes_element p (o ∷ os) = adds o os (elem p.name p.attrs (tidy p.kids) done)

-- the innermost row ends, or the element where no row is open
abbrev pub closes_row : List Items → Part → List Part → Said
closes_row [] p ps = closes_element p ps
closes_row (r ∷ rs) p ps = during (next_slot rs) (record { name = p.name; attrs = p.attrs; kids = p.kids; rows = rs }) ps

-- an end: a list is said as one text, or the innermost row or element closes
abbrev pub says_end : Slot → Part → List Part → Said
says_end no_value p ps = closes_row p.rows p ps
says_end (an_element n) p ps = closes_row p.rows p ps
says_end a_child p ps = closes_row p.rows p ps
says_end a_text p ps = closes_row p.rows p ps
says_end a_simple p ps = closes_row p.rows p ps
says_end (a_word ws) p ps = adds p ps (text (list_text ws) done)
says_end (an_attribute k) p ps = closes_row p.rows p ps
says_end (a_value_word k ws) p ps = gets_attribute p ps k (list_text ws)

-- what is said after one more accepted call
abbrev pub says : Call → Said → Said
says (call_open n) sd = during no_value (begin n) []
says (call_field k) nothing = nothing
says (call_field k) (during s p ps) = says_field p ps (key k)
says (call_field k) (over t) = over t
says (call_value v) nothing = nothing
says (call_value v) (during s p ps) = says_value p ps s v
says (call_value v) (over t) = over t
says call_end nothing = nothing
says call_end (during s p ps) = says_end s p ps
says call_end (over t) = over t
says call_finish sd = nothing
says call_abandon sd = nothing

-- the tree that a finish adds
abbrev pub finished : Said → List Tree
finished nothing = []
finished (during s p ps) = []
finished (over t) = t ∷ []

-- the trees that a call sends to the sink
abbrev pub sends : Call → Said → List Tree
sends (call_open n) sd = []
sends (call_field k) sd = []
sends (call_value v) sd = []
sends call_end sd = []
sends call_finish sd = finished sd
sends call_abandon sd = []

-- the trees of the records finished in a list of calls with these answers; a refused call says nothing
abbrev pub trees_from : Said → List Call → List Answer → List Tree
trees_from sd [] rs = []
trees_from sd (c ∷ cs) [] = []
trees_from sd (c ∷ cs) (accepted ∷ rs) = sends c sd ++ trees_from (says c sd) cs rs
trees_from sd (c ∷ cs) (refused e ∷ rs) = trees_from sd cs rs

-- the trees of a run, from nothing
abbrev pub trees : List Call → List Answer → List Tree
trees cs rs = trees_from nothing cs rs
