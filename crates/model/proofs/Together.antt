-- The writer and what its calls say, side by side: each open tag reads as its name and attributes, and the children so far as
-- what was said of them.
use Rattle.std.proofs.Common.{◌≡◌, Bool, not, List, [], ◌∷◌, None}
use Rattle.style.specs.declared.result.WriteResult.{WriteResult}
use Rattle.xml.specs.Names.{Name}
use Rattle.xml.specs.Reading.{AttValue}
use Rattle.reader.specs.Trees.{Bytes, Attributes, Nodes, text, Tree, ◌⧺◌}
use Rattle.reader.specs.Trees as T
use Rattle.reader.specs.Reader.{Attribs, Element}
use Rattle.reader.proofs.Sound.{Written}
use Rattle.model.specs.Strings.{null}
use Rattle.model.specs.Marks.{Mark, flatten}
use Rattle.model.specs.Model.{Level, Row, named_row, content_row, Outer, Spot, element, content, text_spot, simple, words, Quote, single, several, State, idle, between, inside, quote, complete}
use Rattle.model.specs.Says.{Items, elements, mixed, Part, Slot, no_value, an_element, a_child, a_text, a_simple, a_word, an_attribute, a_value_word, Said, nothing, during, over, list_text}
use Rattle.model.proofs.Reading.{Kids}

abbrev pub part : Bytes → Attributes → Nodes → List Items → Part
part n at ks is = record { name = n; attrs = at; kids = ks; rows = is }

-- the open rows are the same on both sides
pub data Rowed : List Row → List Items → Type 0 where
  rowed_none : Rowed [] []
  rowed_named : {u n : Bytes} {g : Bool} {rs : List Row} {is : List Items} → Name n → Rowed rs is → Rowed (named_row u n g ∷ rs) (elements n ∷ is)
  rowed_mixed : {t : Bytes} {r : WriteResult} {g : Bool} {rs : List Row} {is : List Items} → Rowed rs is → Rowed (content_row t r g ∷ rs) (mixed ∷ is)

-- the records around the innermost one
pub data Oks : List Outer → List Part → Type 0 where
  oks_none : Oks [] []
  oks_more : {l : Level} {at : Attributes} {ks : Nodes} {rs : List Row} {is : List Items} {os : List Outer} {ps : List Part} →
      Name l.name → Written Attribs l.attrs at → Kids l.body.kids ks → Rowed rs is → Oks os ps → Oks (record { level = l; rows = rs } ∷ os) (part l.name at ks is ∷ ps)

-- the next value goes to the same place on both sides
pub data Same : Spot → Slot → Type 0 where
  same_element : {u n : Bytes} → Name n → Same (element u n) (an_element n)
  same_content : {p : Bool} → Same (content p) a_child
  same_text : Same text_spot a_text
  same_simple : Same simple a_simple
  same_words : {w : Bool} {ws : List Bytes} → w ≡ not (null (list_text ws)) → Same (words w) (a_word ws)

-- the items of an open list are written already, and not yet said
abbrev pub flush : Slot → Nodes → Nodes
flush no_value ks = ks
flush (an_element n) ks = ks
flush a_child ks = ks
flush a_text ks = ks
flush a_simple ks = ks
flush (a_word ws) ks = ks ⧺ text (list_text ws) T.done
flush (an_attribute k) ks = ks
flush (a_value_word k ws) ks = ks

pub data SameQuote : Quote → Slot → Type 0 where
  same_single : {k : Bytes} → Name k → SameQuote (single k) (an_attribute k)
  same_several : {k v : Bytes} {w : Bool} {ws : List Bytes} → Name k → Written AttValue v (list_text ws) → w ≡ not (null (list_text ws)) → SameQuote (several k v w) (a_value_word k ws)

pub data Sim : State → Said → Type 0 where
  sim_idle : Sim idle nothing
  sim_between : {l : Level} {ls : List Outer} {at : Attributes} {ks : Nodes} {ps : List Part} →
      Name l.name → Written Attribs l.attrs at → Kids l.body.kids ks → Oks ls ps → Sim (between l ls) (during no_value (part l.name at ks []) ps)
  sim_inside : {s : Spot} {sl : Slot} {rs : List Row} {is : List Items} {l : Level} {ls : List Outer} {at : Attributes} {ks : Nodes} {ps : List Part} →
      Same s sl → Name l.name → Written Attribs l.attrs at → Kids l.body.kids (flush sl ks) → Rowed rs is → Oks ls ps → Sim (inside s rs l ls) (during sl (part l.name at ks is) ps)
  sim_quote : {q : Quote} {sl : Slot} {l : Level} {ls : List Outer} {at : Attributes} {ks : Nodes} {ps : List Part} →
      SameQuote q sl → Name l.name → Written Attribs l.attrs at → Kids l.body.kids ks → Oks ls ps → Sim (quote q l ls) (during sl (part l.name at ks []) ps)
  sim_complete : {ms : List Mark} {t : Tree} → Written Element (flatten None ms) t → Sim (complete ms) (over t)
