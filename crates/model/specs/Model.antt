-- What a writer holds, free of any style: the open records with their rows, and where the next value goes. Assumes nothing.
use Rattle.std.specs.Prelude.{ℕ, Bool, not, ◌&&◌, List, [], ◌∷◌, ◌++◌, length}
use Rattle.style.specs.declared.result.WriteResult.{WriteResult}
use Rattle.model.specs.declared.place.Place.{Place}
use Rattle.model.specs.declared.place.Place.TheVariants.{Idle, Field, Element, Content, Text, Simple, Attribute, TextItem, AttributeItem, Complete}
use Rattle.reader.specs.Trees.{Bytes}
use Rattle.model.specs.Marks.{Mark, less_than, tag_byte}

-- the children of an open record
pub record Body : Type 0 where
  -- what is written of them so far
  pub kids : List Mark
  -- whether a tag that comes next may have an indent
  pub flag : Bool
  -- whether a text's bytes stand last
  pub wordy : Bool

-- an open record
pub record Level : Type 0 where
  -- the name stack beneath its name
  pub under : Bytes
  pub name : Bytes
  -- its attributes, each a space, the name, and the value in quotes
  pub attrs : Bytes
  pub body : Body

-- a row that is open in a record
pub data Row : Type 0 where
  -- each item is an element of one name: the name stack beneath the name, the name, the row's flag
  named_row : Bytes → Bytes → Bool → Row
  -- the items stand among the children: the name stack, what the last item was, the row's flag
  content_row : Bytes → WriteResult → Bool → Row

-- a record in which another one is open, with its open rows, innermost first
pub record Outer : Type 0 where
  pub level : Level
  pub rows : List Row

-- where the next value goes, outside attributes
pub data Spot : Type 0 where
  -- it becomes an element: the name stack beneath its name, its name
  element : Bytes → Bytes → Spot
  -- it stands among the children: whether it may be text
  content : Bool → Spot
  -- it is the text of a text field
  text_spot : Spot
  -- it is a text in place of a wrapped value
  simple : Spot
  -- it is an item of a list that is a text: whether an item was written
  words : Bool → Spot

-- an attribute whose value is not complete
pub data Quote : Type 0 where
  -- its name
  single : Bytes → Quote
  -- a list is its value: its name, the value so far, whether an item was written
  several : Bytes → Bytes → Bool → Quote

-- what a writer holds
pub data State : Type 0 where
  idle : State
  -- before the next field of the innermost record, or its end
  between : Level → List Outer → State
  -- before a value, in the innermost record and its open rows
  inside : Spot → List Row → Level → List Outer → State
  -- before the value of an attribute of the innermost record
  quote : Quote → Level → List Outer → State
  -- the record is complete
  complete : List Mark → State

-- the place that a state is at
abbrev pub spot_place : Spot → Place
spot_place (element u n) = Element (length u)
spot_place (content p) = Content p
spot_place text_spot = Text
spot_place simple = Simple
spot_place (words w) = TextItem w

-- the place before the value of an attribute, or before its next item
abbrev pub quote_place : Quote → Place
quote_place (single k) = Attribute
quote_place (several k v w) = AttributeItem w

-- the place of a state
abbrev pub place : State → Place
place idle = Idle
place (between l ls) = Field
place (inside s rs l ls) = spot_place s
place (quote q l ls) = quote_place q
place (complete ms) = Complete

-- the name stack, as it is when a value in the innermost open thing is complete
abbrev pub stack : List Row → Level → Bytes
stack [] l = l.under ++ l.name
stack (named_row u n f ∷ rs) l = u ++ n
stack (content_row s r f ∷ rs) l = s

-- whether a tag that comes next may have an indent, as the innermost open thing has it
abbrev pub flag : List Row → Body → Bool
flag [] b = b.flag
flag (named_row u n f ∷ rs) b = f
flag (content_row s r f ∷ rs) b = f

-- the `<` of a start tag or an empty tag: an indent goes before it where the flag says so, but never straight after a text
abbrev pub child_start : List Row → Body → ℕ → Mark
child_start rs b d = less_than (flag rs b && not b.wordy) d

-- the `<` of an open record's start tag; the root's has no indent
abbrev pub start : List Outer → Mark
start [] = tag_byte 60
start (o ∷ os) = child_start o.rows o.level.body (length (o ∷ os))
