-- A field begins whose value goes among the children. Assumes nothing.
use Rattle.std.proofs.Common.{◌≡◌, ℕ, true, false, cond, List, [], ◌∷◌, None, Ok, Result, sym, refl, ap, ◌∙◌, subst, arith}
use Rattle.std.proofs.lemmas.Grind.{common_steps}
use Rattle.std.proofs.lemmas.Bool.{not_from_true, ne_eqb}
use Rattle.refusal.specs.declared.Refusal.{Refusal}
use Rattle.model.specs.declared.place.Place.TheVariants.{Field, Element, Content, Text}
use Rattle.model.specs.Strings.{utf8}
use Rattle.model.specs.Calls.{key_attribute, key_text, key_value, key_element, key, is_text_name, is_value_name, call_field}
use Rattle.model.specs.Model.{Level, Outer, between}
use Rattle.model.specs.Step.{field}
use Rattle.model.specs.Grounds.{key_fault}
use Rattle.model.specs.Table.{verdict, key_name}
use Rattle.engine.specs.Memory.{Mem, Safe, placed, name_put}
use Rattle.engine.specs.Lays.{Lays, setting, Told, Does}
use Rattle.engine.specs.Opening.{Awaits}
use Rattle.engine.proofs.Spots.{on_field}
use Rattle.engine.proofs.Telling.{Clear}
use Rattle.engine.proofs.Begins.{holds_child, lays_element, awaits_told}

-- only a name can still be at fault
pub key_clear : (k : List ℕ) (l : Level) (ls : List Outer) → utf8 k ≡ true → key_fault (key k) ≡ None → Clear (call_field k) (between l ls)
key_clear k l ls fine n = record { order = refl; bytes = not_from_true (utf8 k) fine; shape = refl; text = refl; name = n }

-- a key that does not begin with '@'
plain_key : (k : List ℕ) → ((rest : List ℕ) → k ≡ 64 ∷ rest → ⊥) → key k ≡ cond (is_text_name k) key_text (cond (is_value_name k) key_value (key_element k))
plain_key [] h = refl
plain_key (b ∷ bs) h =
    ap (λ t. cond t (key_attribute bs) (cond (is_text_name (b ∷ bs)) key_text (cond (is_value_name (b ∷ bs)) key_value (key_element (b ∷ bs))))) (ne_eqb b 64 (λ e. h bs (ap (λ x. x ∷ bs) e)))

module _ (k : List ℕ) (room : ℕ) (w : Mem) (safe : Safe w) (at : w.place ≡ Field) (fine : utf8 k ≡ true) (plain : (rest : List ℕ) → k ≡ 64 ∷ rest → ⊥) where
  -- the two key words
  pub text_key : is_text_name k ≡ true → Does (call_field k) room (Ok tt) w (placed Text w)
  text_key t = grind (arith, common_steps)

  pub value_key : is_text_name k ≡ false → is_value_name k ≡ true → Does (call_field k) room (Ok tt) w (placed (Content true) w)
  value_key t v = grind (arith, common_steps)

  -- neither of the two key words: the name of an element
  pub element_key : is_text_name k ≡ false → is_value_name k ≡ false → (r : Result (Unit {0}) Refusal) (u : Mem) → Awaits r k w u → Does (call_field k) room r w u
  element_key t v r u a m lay =
      let e : key k ≡ key_element k = plain_key k plain ∙ ap (λ b. cond b key_text (cond (is_value_name k) key_value (key_element k))) t ∙ ap (λ b. cond b key_value (key_element k)) v in
      on_field (λ y. Told (verdict (setting w) room (call_field k) y) r w u) w m lay at
      (λ l ls y.
      awaits_told room (call_field k) (between l ls) k w
      (record { order = refl; bytes = not_from_true (utf8 k) fine; shape = refl; text = refl; fault = ap key_fault e; brought = ap key_name e; handed = refl }) safe y.holds r u refl
      (λ fits. subst (λ z. Lays (field z l ls) (placed (Element w.names.used) (name_put k w))) (sym e) (lays_element true [] l ls w k fits (holds_child true l ls w y.holds))) a)
