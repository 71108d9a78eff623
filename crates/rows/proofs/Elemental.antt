-- Values at the element place: an empty element, or a text between tags. Assumes nothing.
use Rattle.std.proofs.Common.{◌≡◌, ℕ, suc, Bool, true, false, cond, List, [], ◌∷◌, length, Some, Result, sym, refl, ap, ◌∙◌, subst, arith}
use Rattle.refusal.specs.declared.Refusal.{Refusal}
use Rattle.style.specs.declared.result.WriteResult.TheVariants.{Element as element_result}
use Rattle.style.specs.declared.style.EmptyElementHandling.{EmptyElementHandling}
use Rattle.xml.specs.declared.escape.Use.{Use}
use Rattle.xml.specs.declared.escape.Use.TheVariants.{Text as text_use}
use Rattle.xml.specs.Escaping.{escaped}
use Rattle.model.specs.declared.place.Place.TheVariants.{Element}
use Rattle.model.specs.Strings.{utf8}
use Rattle.model.specs.Calls.{Rule, Value, val_text, val_variant, call_value, is_text_name}
use Rattle.model.specs.Marks.{Mark, flatten, empty_element, text_element}
use Rattle.model.specs.Model.{Body, Level, Row, Outer, element, inside, child_start}
use Rattle.model.specs.Step.{done, with_tag, put_element, empty_child, text_child}
use Rattle.model.specs.Grounds.{no_element, value_string}
use Rattle.model.specs.Table.{verdict, value_opens}
use Rattle.engine.specs.Memory.{Mem, Safe}
use Rattle.engine.specs.Lays.{Holds, setting, Told, Does}
use Rattle.engine.proofs.Spots.{on_element}
use Rattle.rows.specs.Pieces.{Writes, name_of, empty_bytes, text_bytes}
use Rattle.rows.proofs.Tagging.{name_is, empty_is, text_is}
use Rattle.rows.proofs.Told.{element_told}

-- what a rule chooses is all that counts of it
pub by_rule : (P : List ℕ → Type 0) (ρ : Rule) {chosen : Use → ℕ → Bool} (u : Use) (s : List ℕ) → ρ.chooses ≡ chosen → P (escaped (chosen u) s) → P (escaped (ρ.chooses u) s)
by_rule P ρ u s e = subst (λ f. P (escaped (f u) s)) (sym e)

module _ (c : Value) (room from : ℕ) (w v : Mem) (res : Result (Unit {0}) Refusal) (at : w.place ≡ Element from) (safe : Safe w) (fine : utf8 (value_string c) ≡ true) (shape : no_element c ≡ false) (small : value_opens c ≡ false) where
  -- these bytes, which the model's marks make, whatever the element's name
  element_child : (ms : List ℕ → List Mark) (bs : List ℕ → List ℕ) → ((rs : List Row) (l : Level) (ls : List Outer) (u n : List ℕ) → put_element w.form (suc (length ls)) rs l.body u n c ≡ Some (done element_result (with_tag l.body (child_start rs l.body (suc (length ls)) ∷ ms n)))) → ((rs : List Row) (l : Level) (ls : List Outer) (u n : List ℕ) → Holds (inside (element u n) rs l ls) w → bs n ≡ flatten w.indentation (child_start rs l.body (suc (length ls)) ∷ ms n)) → Writes res (bs (name_of w from)) element_result false w v → Does (call_value c) room res w v
  element_child ms bs p k h m lay =
      on_element (λ x. Told (verdict (setting w) room (call_value c) x) res w v) w from m lay at
      (λ u n rs l ls e y.
      element_told c room u n rs l ls w v res (child_start rs l.body (suc (length ls)) ∷ ms n) (bs (name_of w from)) fine shape small (p rs l ls u n)
      (ap bs (name_is u n rs l ls w from e y.holds) ∙ k rs l ls u n y.holds) safe y h)

  pub element_empty : ((f : EmptyElementHandling) (d : ℕ) (rs : List Row) (b : Body) (u n : List ℕ) → put_element f d rs b u n c ≡ Some (empty_child f d rs b n)) → Writes res (empty_bytes w (name_of w from)) element_result false w v → Does (call_value c) room res w v
  element_empty p =
      element_child (empty_element w.form) (empty_bytes w) (λ rs l ls. p w.form (suc (length ls)) rs l.body)
      (λ rs l ls u n. empty_is (element u n) n rs l ls w refl)

  pub element_text : (ρ : Rule) {chosen : Use → ℕ → Bool} (x : List ℕ) → ρ.chooses ≡ chosen → ((f : EmptyElementHandling) (d : ℕ) (rs : List Row) (b : Body) (u n : List ℕ) → put_element f d rs b u n c ≡ Some (text_child f d rs b n (escaped (ρ.chooses text_use) x))) → Writes res (text_bytes w (name_of w from) (escaped (chosen text_use) x)) element_result false w v → Does (call_value c) room res w v
  element_text ρ x is p h =
      let s = escaped (ρ.chooses text_use) x in
      element_child (λ n. text_element n s) (λ n. text_bytes w n s) (λ rs l ls. p w.form (suc (length ls)) rs l.body)
      (λ rs l ls u n. text_is (element u n) n s rs l ls w refl) (by_rule (λ z. Writes res (text_bytes w (name_of w from) z) element_result false w v) ρ text_use x is h)

-- no text, or some
pub text_none : (ρ : Rule) (s : List ℕ) → length s ≡ 0 → (f : EmptyElementHandling) (d : ℕ) (rs : List Row) (b : Body) (u n : List ℕ) → put_element f d rs b u n (val_text ρ s) ≡ Some (empty_child f d rs b n)
text_none ρ [] h f d rs b u n = refl
text_none ρ (x ∷ s) h f d rs b u n = absurd (omega (arith, h))

pub text_some : (ρ : Rule) (s : List ℕ) → (length s ≡ 0 → ⊥) → (f : EmptyElementHandling) (d : ℕ) (rs : List Row) (b : Body) (u n : List ℕ) → put_element f d rs b u n (val_text ρ s) ≡ Some (text_child f d rs b n (escaped (ρ.chooses text_use) s))
text_some ρ [] h f d rs b u n = absurd (h refl)
text_some ρ (x ∷ s) h f d rs b u n = refl

-- a variant's name, which may be the one for a text
pub variant_child : (ρ : Rule) (s : List ℕ) (t : Bool) → is_text_name s ≡ t → (f : EmptyElementHandling) (d : ℕ) (rs : List Row) (b : Body) (u n : List ℕ) → put_element f d rs b u n (val_variant ρ s) ≡ Some (cond t (empty_child f d rs b n) (text_child f d rs b n (escaped (ρ.chooses text_use) s)))
variant_child ρ s t h f d rs b u n = ap (λ t. Some (cond t (empty_child f d rs b n) (text_child f d rs b n (escaped (ρ.chooses text_use) s)))) h
