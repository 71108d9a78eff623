-- From the place of the code to the states of the model that are at it. Assumes nothing.
use Rattle.std.proofs.Common.{◌≡◌, ℕ, Bool, List, length, sym, refl, ◌∙◌, subst}
use Rattle.model.specs.declared.place.Place.{Place}
use Rattle.model.specs.declared.place.Place.TheVariants.{Idle, Field, Element, Content, Text, Simple, Attribute, TextItem, AttributeItem, Complete}
use Rattle.model.specs.Marks.{Mark}
use Rattle.model.specs.Model.{Level, Row, Outer, element, content, text_spot, simple, words, single, several, State, idle, between, inside, quote, complete, place}
use Rattle.engine.specs.Memory.{Mem}
use Rattle.engine.specs.Lays.{Lays}

-- P holds of each state at this place
abbrev pub EachAt : (State → Type 0) → Place → Type 0
EachAt P Idle = P idle
EachAt P Field = (l : Level) (ls : List Outer) → P (between l ls)
EachAt P (Element from) = (u n : List ℕ) (rs : List Row) (l : Level) (ls : List Outer) → from ≡ length u → P (inside (element u n) rs l ls)
EachAt P (Content may) = (rs : List Row) (l : Level) (ls : List Outer) → P (inside (content may) rs l ls)
EachAt P Text = (rs : List Row) (l : Level) (ls : List Outer) → P (inside text_spot rs l ls)
EachAt P Simple = (rs : List Row) (l : Level) (ls : List Outer) → P (inside simple rs l ls)
EachAt P Attribute = (k : List ℕ) (l : Level) (ls : List Outer) → P (quote (single k) l ls)
EachAt P (TextItem more) = (rs : List Row) (l : Level) (ls : List Outer) → P (inside (words more) rs l ls)
EachAt P (AttributeItem more) = (k s : List ℕ) (l : Level) (ls : List Outer) → P (quote (several k s more) l ls)
EachAt P Complete = (ms : List Mark) → P (complete ms)

-- so it holds of a state where it holds of each at the state's own place
pub at_own : (P : State → Type 0) (m : State) → EachAt P (place m) → P m
at_own P idle f = f
at_own P (between l ls) f = f l ls
at_own P (inside (element u n) rs l ls) f = f u n rs l ls refl
at_own P (inside (content may) rs l ls) f = f rs l ls
at_own P (inside text_spot rs l ls) f = f rs l ls
at_own P (inside simple rs l ls) f = f rs l ls
at_own P (inside (words more) rs l ls) f = f rs l ls
at_own P (quote (single k) l ls) f = f k l ls
at_own P (quote (several k s more) l ls) f = f k s l ls
at_own P (complete ms) f = f ms

module _ (P : State → Type 0) (w : Mem) where
  -- P holds of a model that the memory holds, where it holds of each at the code's place
  abbrev pub On : Place → Type 0
  On p = (m : State) → Lays m w → w.place ≡ p → EachAt (λ x. Lays x w → P x) p → P m

  pub on_place : (p : Place) → On p
  on_place p m lay at f = at_own (λ x. Lays x w → P x) m (subst (EachAt (λ x. Lays x w → P x)) (sym at ∙ lay.place) f) lay

  pub on_idle : On Idle
  on_idle = on_place Idle

  pub on_field : On Field
  on_field = on_place Field

  pub on_element : (from : ℕ) → On (Element from)
  on_element from = on_place (Element from)

  pub on_content : (may : Bool) → On (Content may)
  on_content may = on_place (Content may)

  pub on_text : On Text
  on_text = on_place Text

  pub on_simple : On Simple
  on_simple = on_place Simple

  pub on_word : (more : Bool) → On (TextItem more)
  on_word more = on_place (TextItem more)

  pub on_attribute : On Attribute
  on_attribute = on_place Attribute

  pub on_attribute_item : (more : Bool) → On (AttributeItem more)
  on_attribute_item more = on_place (AttributeItem more)

  pub on_complete : On Complete
  on_complete = on_place Complete
