-- What the model says of a text and of a variant's name that is written as one: the same of both. Assumes nothing.
use Rattle.std.proofs.Common.{◌≡◌, ℕ, Bool, false, List, Some, refl, inl, inr}
use Rattle.xml.specs.declared.escape.Use.TheVariants.{TextItem as text_item_use, Attribute as attribute_use, AttributeItem as attribute_item_use}
use Rattle.xml.specs.Escaping.{escaped}
use Rattle.model.specs.Calls.{Rule, Value}
use Rattle.model.specs.Model.{Body}
use Rattle.model.specs.Step.{item, put_word, closed, attribute, put_single, quoted_item, put_several}
use Rattle.model.specs.Grounds.{value_string, no_text, no_item}
use Rattle.model.specs.Table.{value_opens}
use Rattle.engine.specs.Lays.{IsString}

pub record Alike (c : Value) (ρ : Rule) (s : List ℕ) : Type 0 where
  pub string : value_string c ≡ s
  pub small : value_opens c ≡ false
  pub shape : no_text c ≡ false
  pub listed : no_item c ≡ false
  pub word : (t : Bool) (b : Body) → put_word t b c ≡ Some (item t b (ρ.chooses text_item_use) s)
  pub single : (k : List ℕ) → put_single k c ≡ Some (closed (attribute k (escaped (ρ.chooses attribute_use) s)))
  pub several : (k v : List ℕ) (t : Bool) → put_several k v t c ≡ Some (quoted_item k v t (ρ.chooses attribute_item_use) s)

pub alike : (c : Value) (ρ : Rule) (s : List ℕ) → IsString c ρ s → Alike c ρ s
alike c ρ s (inl e) = rw e (record { string = refl; small = refl; shape = refl; listed = refl; word = λ t b. refl; single = λ k. refl; several = λ k v t. refl })
alike c ρ s (inr e) = rw e (record { string = refl; small = refl; shape = refl; listed = refl; word = λ t b. refl; single = λ k. refl; several = λ k v t. refl })
