-- A variant at a content place: an empty element of its name, or nothing. Assumes nothing.
use Rattle.std.proofs.Common.{◌≡◌, ℕ, suc, Bool, true, false, cond, List, ◌∷◌, length, Some, None, Ok, Result, refl, ap, ◌∙◌}
use Rattle.std.proofs.lemmas.Bool.{not_from_true}
use Rattle.refusal.specs.declared.Refusal.{Refusal}
use Rattle.style.specs.declared.result.WriteResult.TheVariants.{Element as element_result, Nothing}
use Rattle.style.specs.declared.style.EmptyElementHandling.{EmptyElementHandling}
use Rattle.xml.specs.Names.{name_fault}
use Rattle.model.specs.declared.place.Place.TheVariants.{Content}
use Rattle.model.specs.Strings.{utf8}
use Rattle.model.specs.Calls.{Rule, val_variant, call_value, is_text_name}
use Rattle.model.specs.Marks.{empty_element}
use Rattle.model.specs.Model.{Body, Row, content, stack, child_start}
use Rattle.model.specs.Step.{done, put_content, empty_child}
use Rattle.model.specs.Table.{verdict}
use Rattle.engine.specs.Memory.{Mem, Safe, settled}
use Rattle.engine.specs.Lays.{setting, Told, Does}
use Rattle.engine.proofs.Spots.{on_content}
use Rattle.rows.specs.Pieces.{empty_bytes, Writes}
use Rattle.rows.proofs.Tagging.{empty_is}
use Rattle.rows.proofs.Told.{spot_told}
use Rattle.rows.proofs.Wording.{content_silent}

-- what a variant does by its name
variant_by : (f : EmptyElementHandling) (d : ℕ) (rs : List Row) (b : Body) (t : List ℕ) (ρ : Rule) (n : List ℕ) (x : Bool) → is_text_name n ≡ x → put_content f d rs b t (val_variant ρ n) ≡ Some (cond x (done Nothing b) (empty_child f d rs b n))
variant_by f d rs b t ρ n x e = ap (λ y. Some (cond y (done Nothing b) (empty_child f d rs b n))) e

module _ (room : ℕ) (ρ : Rule) (n : List ℕ) (p : Bool) (w : Mem) (safe : Safe w) (at : w.place ≡ Content p) (u : utf8 n ≡ true) where
  -- the name for text
  pub variant_silent : (v : Mem) → is_text_name n ≡ true → v ≡ settled Nothing w → Does (call_value (val_variant ρ n)) room (Ok tt) w v
  variant_silent v t is =
      content_silent (val_variant ρ n) room w v safe u refl p at refl refl (ap (λ b. cond b None (name_fault n)) t) refl Nothing
      (λ rs l ls. variant_by w.form (suc (length ls)) rs l.body (stack rs l) ρ n true t) is

  module _ (t : is_text_name n ≡ false) where
    -- an empty element
    pub variant_told : (v : Mem) (res : Result (Unit {0}) Refusal) → name_fault n ≡ None → Writes res (empty_bytes w n) element_result false w v → Does (call_value (val_variant ρ n)) room res w v
    variant_told v res e h m lay =
        on_content (λ x. Told (verdict (setting w) room (call_value (val_variant ρ n)) x) res w v) w p m lay at
        (λ rs l ls z.
        spot_told (val_variant ρ n) room (content p) rs l ls w v res element_result (child_start rs l.body (suc (length ls)) ∷ empty_element w.form n) false (empty_bytes w n) refl
        (record { order = refl; bytes = not_from_true (utf8 n) u; shape = refl; text = refl; name = ap (λ b. cond b None (name_fault n)) t ∙ e }) (record { brought = refl; takes = refl; handed = refl })
        (variant_by w.form (suc (length ls)) rs l.body (stack rs l) ρ n false t) (empty_is (content p) n rs l ls w refl z.holds) safe z h)
