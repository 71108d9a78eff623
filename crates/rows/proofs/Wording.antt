-- Values at the content, text and simple places that write a text or nothing. Assumes nothing.
use Rattle.std.proofs.Common.{◌≡◌, ℕ, suc, Bool, true, false, not, ◌&&◌, ◌||◌, eqb, ◌⊎◌, List, [], ◌∷◌, length, Some, None, Ok, Result, sym, refl, ap, subst, ⊎_elim, arith}
use Rattle.std.proofs.lemmas.Bool.{eqb-true, not_from_true, and_right}
use Rattle.std.proofs.lemmas.List.{append-nil}
use Rattle.refusal.specs.declared.Refusal.{Refusal}
use Rattle.style.specs.declared.result.WriteResult.{WriteResult}
use Rattle.style.specs.declared.result.WriteResult.TheVariants.{SensitiveText}
use Rattle.xml.specs.declared.escape.Use.{Use}
use Rattle.xml.specs.declared.escape.Use.TheVariants.{Text as text_use}
use Rattle.xml.specs.Escaping.{escaped}
use Rattle.model.specs.declared.place.Place.TheVariants.{Content, Text, Simple}
use Rattle.model.specs.Strings.{null, utf8}
use Rattle.model.specs.Calls.{Rule, Value, call_value}
use Rattle.model.specs.Marks.{texted}
use Rattle.model.specs.Model.{Body, Level, Row, Outer, Spot, content, text_spot, simple, State, inside, stack, spot_place}
use Rattle.model.specs.Step.{done, put, put_content, put_text, put_simple, moved_if, with_text}
use Rattle.model.specs.Layout.{spot_frames}
use Rattle.model.specs.Grounds.{sort, is_value, misfit, no_content, no_text, is_text, text_barred, value_string, value_fault, content_fault}
use Rattle.model.specs.Table.{verdict, or_stay, value_opens, value_name, content_name}
use Rattle.model.proofs.Flatten.{flatten_texted}
use Rattle.engine.specs.Memory.{Mem, Safe, settled}
use Rattle.engine.specs.Lays.{Lays, setting, Told, Does}
use Rattle.engine.proofs.Spots.{EachAt, on_place}
use Rattle.engine.proofs.Values.{value_silent}
use Rattle.engine.proofs.Telling.{Clear, Small}
use Rattle.rows.specs.Pieces.{Writes}
use Rattle.rows.proofs.Elemental.{by_rule}
use Rattle.rows.proofs.Told.{spot_told}

-- a text that is allowed, or empty
pub may_stand : (s : List ℕ) (p : Bool) → (p || eqb (length s) 0) ≡ true → (not (null s) && not p) ≡ false
may_stand [] p h = refl
may_stand (x ∷ s) true h = refl
may_stand (x ∷ s) false h = absurd (omega (arith, eqb-true (length (x ∷ s)) 0 h))

-- no text's bytes
pub no_words : (b : Body) → with_text b [] ≡ b
no_words b = ap (λ k. record { kids = k; flag = b.flag; wordy = b.wordy }) (append-nil b.kids)

-- no list is at the spot, what is at its place is at the spot, and there the value is taken and brings no name
pub record Takes (c : Value) (s : Spot) : Type 1 where
  pub bare : spot_frames s ≡ []
  pub alone : (P : State → Type 0) → ((rs : List Row) (l : Level) (ls : List Outer) → P (inside s rs l ls)) → EachAt P (spot_place s)
  pub order : not (is_value (sort (spot_place s))) ≡ false
  pub shape : misfit c (spot_place s) ≡ false
  pub text : (is_text c && text_barred (spot_place s)) ≡ false
  pub name : value_fault c (spot_place s) ≡ None
  pub brought : value_name c (spot_place s) ≡ []

pub takes_content : (c : Value) (p : Bool) → no_content c ≡ false → (is_text c && not p) ≡ false → content_fault c ≡ None → content_name c ≡ [] → Takes c (content p)
takes_content c p q t n b = record { bare = refl; alone = λ P f. f; order = refl; shape = q; text = t; name = n; brought = b }

pub takes_text : (c : Value) → no_text c ≡ false → Takes c text_spot
takes_text c q = record { bare = refl; alone = λ P f. f; order = refl; shape = q; text = and_right (is_text c) false refl; name = refl; brought = refl }

-- a proof of its own, as one for both spots would take each field as an argument
pub takes_simple : (c : Value) → no_text c ≡ false → Takes c simple
takes_simple c q = record { bare = refl; alone = λ P f. f; order = refl; shape = q; text = and_right (is_text c) false refl; name = refl; brought = refl }

module _ (c : Value) (room : ℕ) (w v : Mem) (safe : Safe w) (fine : utf8 (value_string c) ≡ true) (small : value_opens c ≡ false) where
  -- the bytes are written, and stand last as a text's if there are any
  abbrev WritesText : Result (Unit {0}) Refusal → List ℕ → Type 0
  WritesText res bs = Writes res bs SensitiveText (not (null bs) || w.wordy) w v

  module _ (s : Spot) (at : w.place ≡ spot_place s) (k : Takes c s) where
    -- from what holds of each model at the spot
    told_at : (res : Result (Unit {0}) Refusal) → ((rs : List Row) (l : Level) (ls : List Outer) → Clear (call_value c) (inside s rs l ls) → Small (call_value c) (inside s rs l ls) w → Lays (inside s rs l ls) w → Told (verdict (setting w) room (call_value c) (inside s rs l ls)) res w v) → Does (call_value c) room res w v
    told_at res f m lay =
        on_place (λ x. Told (verdict (setting w) room (call_value c) x) res w v) w (spot_place s) m lay at
        (k.alone (λ x. Lays x w → Told (verdict (setting w) room (call_value c) x) res w v)
        (λ rs l ls. f rs l ls (record { order = k.order; bytes = not_from_true (utf8 (value_string c)) fine; shape = k.shape; text = k.text; name = k.name }) (record { brought = k.brought; takes = small; handed = refl })))

    -- a value that writes nothing and is complete
    pub spot_silent : (r : WriteResult) → ((rs : List Row) (l : Level) (ls : List Outer) → put w.form (suc (length ls)) rs (stack rs l) l.body s c ≡ Some (done r l.body)) → v ≡ settled r w → Does (call_value c) room (Ok tt) w v
    spot_silent r q is = told_at (Ok tt) (λ rs l ls e y lay. value_silent (call_value c) room s rs l ls w r k.bare e y safe lay v (ap (λ o. or_stay (inside s rs l ls) (moved_if rs l ls o)) (q rs l ls)) is)

    -- a value that writes a text's bytes and is complete
    pub spot_words : (res : Result (Unit {0}) Refusal) (ρ : Rule) {chosen : Use → ℕ → Bool} (x : List ℕ) → ρ.chooses ≡ chosen → ((rs : List Row) (l : Level) (ls : List Outer) → put w.form (suc (length ls)) rs (stack rs l) l.body s c ≡ Some (done SensitiveText (with_text l.body (escaped (ρ.chooses text_use) x)))) → WritesText res (escaped (chosen text_use) x) → Does (call_value c) room res w v
    spot_words res ρ x is q h =
        let bs = escaped (ρ.chooses text_use) x in
        let wrote = by_rule (WritesText res) ρ text_use x is h in
        told_at res
        (λ rs l ls e y lay.
        spot_told c room s rs l ls w v res SensitiveText (texted bs) (not (null bs) || l.body.wordy) bs k.bare e y (q rs l ls) (sym (flatten_texted w.indentation bs)) safe lay (subst (λ t. Writes res bs SensitiveText (not (null bs) || t) w v) lay.holds.wordy wrote))

  pub content_silent : (p : Bool) → w.place ≡ Content p → no_content c ≡ false → (is_text c && not p) ≡ false → content_fault c ≡ None → content_name c ≡ [] → (r : WriteResult) → ((rs : List Row) (l : Level) (ls : List Outer) → put_content w.form (suc (length ls)) rs l.body (stack rs l) c ≡ Some (done r l.body)) → v ≡ settled r w → Does (call_value c) room (Ok tt) w v
  content_silent p at q t n b = spot_silent (content p) at (takes_content c p q t n b)

  -- at either place that takes only text
  module _ (at : (w.place ≡ Text) ⊎ (w.place ≡ Simple)) (shape : no_text c ≡ false) where
    pub only_silent : ((b : Body) → put_text b c ≡ Some (done SensitiveText b)) → ((b : Body) → put_simple b c ≡ Some (done SensitiveText b)) → v ≡ settled SensitiveText w → Does (call_value c) room (Ok tt) w v
    only_silent p q is = ⊎_elim (λ t. spot_silent text_spot t (takes_text c shape) SensitiveText (λ rs l ls. p l.body) is) (λ s. spot_silent simple s (takes_simple c shape) SensitiveText (λ rs l ls. q l.body) is) at

    pub only_words : (res : Result (Unit {0}) Refusal) (ρ : Rule) {chosen : Use → ℕ → Bool} (x : List ℕ) → ρ.chooses ≡ chosen → ((b : Body) → put_text b c ≡ Some (done SensitiveText (with_text b (escaped (ρ.chooses text_use) x)))) → ((b : Body) → put_simple b c ≡ Some (done SensitiveText (with_text b (escaped (ρ.chooses text_use) x)))) → WritesText res (escaped (chosen text_use) x) → Does (call_value c) room res w v
    only_words res ρ x is p q h = ⊎_elim (λ t. spot_words text_spot t (takes_text c shape) res ρ x is (λ rs l ls. p l.body) h) (λ s. spot_words simple s (takes_simple c shape) res ρ x is (λ rs l ls. q l.body) h) at
