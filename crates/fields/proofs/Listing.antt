-- An item of a list that is a text, whichever value it is. Assumes nothing.
use Rattle.std.proofs.Common.{◌≡◌, ℕ, ◌+◌, ◌≤◌, Bool, true, false, cond, not, ◌||◌, eqb, List, [], ◌∷◌, ◌++◌, length, Some, Ok, Err, Result, sym, refl, ap, ◌∙◌, subst, arith}
use Rattle.std.proofs.lemmas.List.{length-append}
use Rattle.std.proofs.lemmas.Bool.{not_from_true, and_right, both_ways}
use Rattle.refusal.specs.declared.Refusal.{Refusal}
use Rattle.refusal.specs.declared.Refusal.TheVariants.{Stage}
use Rattle.xml.specs.declared.escape.Use.{Use}
use Rattle.xml.specs.declared.escape.Use.TheVariants.{TextItem as text_item_use}
use Rattle.xml.specs.Escaping.{replacement, piece, escaped}
use Rattle.model.specs.declared.place.Place.TheVariants.{TextItem}
use Rattle.model.specs.Strings.{null, utf8}
use Rattle.model.specs.Calls.{Rule, Value, call_value}
use Rattle.model.specs.Marks.{flatten, texted}
use Rattle.model.specs.Model.{Body, Level, Row, Outer, words, between, inside}
use Rattle.model.specs.Step.{on, item, gap, with_body, moved_if}
use Rattle.model.specs.Layout.{stage}
use Rattle.model.specs.Grounds.{is_text, value_string}
use Rattle.model.specs.Table.{verdict, next, or_stay}
use Rattle.model.proofs.Flatten.{flatten_texted}
use Rattle.engine.specs.Memory.{Mem, Safe, appended, worded, placed}
use Rattle.engine.specs.Lays.{IsString, Holds, Lays, Beyond, setting, Told, Does}
use Rattle.engine.proofs.Fronts.{front_length, past_same, past_grown}
use Rattle.engine.proofs.Kids.{more_kids, stage_kids, holds_kids}
use Rattle.engine.proofs.Spots.{on_word}
use Rattle.engine.proofs.Strings.{alike}
use Rattle.engine.proofs.Telling.{Clear, Small, told_small, told_small_full}
use Rattle.rows.proofs.Elemental.{by_rule}
use Rattle.fields.specs.Items.{Adds}

-- an item that is not empty has bytes
null_cond : (t : Bool) (x y : List ℕ) → null x ≡ false → null y ≡ false → null (cond t x y) ≡ false
null_cond true x y p q = p
null_cond false x y p q = q

null_front : (x y : List ℕ) → null x ≡ false → null (x ++ y) ≡ false
null_front [] y p = absurd (both_ways true p refl)
null_front (b ∷ x) y p = refl

null_replacement : (b : ℕ) → null (replacement b) ≡ false
null_replacement b =
    null_cond (eqb b 60) _ _ refl (null_cond (eqb b 62) _ _ refl (null_cond (eqb b 39) _ _ refl (null_cond (eqb b 38) _ _ refl (null_cond (eqb b 34) _ _ refl (null_cond (eqb b 9) _ _ refl (null_cond (eqb b 10) _ _ refl (null_cond (eqb b 13) _ _ refl refl)))))))

item_some : (t : Bool) (chosen : ℕ → Bool) (s : List ℕ) → (length s ≡ 0 → ⊥) → null (gap t ++ escaped chosen s) ≡ false
item_some t chosen [] h = absurd (h refl)
item_some true chosen (x ∷ s) h = refl
item_some false chosen (x ∷ s) h = null_front (piece chosen x) (escaped chosen s) (null_cond (chosen x) (replacement x) (x ∷ []) (null_replacement x) refl)

-- where it leads
item_on : (t : Bool) (b : Body) (chosen : ℕ → Bool) (s : List ℕ) → (length s ≡ 0 → ⊥) → item t b chosen s ≡ on (words true) (more_kids b (texted (gap t ++ escaped chosen s)) true)
item_on t b chosen [] h = absurd (h refl)
item_on t b chosen (x ∷ s) h =
    let bs = gap t ++ escaped chosen (x ∷ s) in
    ap (λ n. on (words true) (record { kids = b.kids ++ texted bs; flag = b.flag; wordy = not n || b.wordy })) (item_some t chosen (x ∷ s) h)

-- a text's bytes behind the list's other items
lays_item : (t : Bool) (bs : List ℕ) (rs : List Row) (l : Level) (ls : List Outer) (w : Mem) → w.stage.used + length bs ≤ length w.stage.all → Holds (inside (words t) rs l ls) w → Lays (inside (words true) rs (with_body l (more_kids l.body (texted bs) true)) ls) (placed (TextItem true) (worded true (appended bs w)))
lays_item t bs rs l ls w room h =
    let i = w.indentation in
    let flat = flatten_texted i bs in
    let k = holds_kids (words t) rs l ls w (texted bs) true (omega (arith, room, ap length flat)) h in
    subst (λ z. Lays (inside (words true) rs (with_body l (more_kids l.body (texted bs) true)) ls) (placed (TextItem true) (worded true (appended z w)))) flat
    (record { holds = record { stage = k.stage; names = k.names; frames = k.frames; records = k.records; wordy = k.wordy; fit = k.fit }; place = refl })

module _ (c : Value) (r : Rule) (s : List ℕ) (is : IsString c r s) (room : ℕ) (t : Bool) (w v : Mem) (at : w.place ≡ TextItem t) (safe : Safe w) (fine : utf8 s ≡ true) (some : length s ≡ 0 → ⊥) where
  clear : (rs : List Row) (l : Level) (ls : List Outer) → Clear (call_value c) (inside (words t) rs l ls)
  clear rs l ls =
      let a = alike c r s is in
      record { order = refl; bytes = not_from_true (utf8 (value_string c)) (ap utf8 a.string ∙ fine); shape = a.listed; text = and_right (is_text c) false refl; name = refl }

  small : (rs : List Row) (l : Level) (ls : List Outer) → Small (call_value c) (inside (words t) rs l ls) w
  small rs l ls = record { brought = refl; takes = (alike c r s is).small; handed = refl }

  abbrev item_bytes : List ℕ
  item_bytes = gap t ++ escaped (r.chooses text_item_use) s

  item_next : (rs : List Row) (l : Level) (ls : List Outer) → next w.form (call_value c) (inside (words t) rs l ls) ≡ inside (words true) rs (with_body l (more_kids l.body (texted item_bytes) true)) ls
  item_next rs l ls =
      ap (λ o. or_stay (inside (words t) rs l ls) (moved_if rs l ls o)) ((alike c r s is).word t l.body ∙ ap Some (item_on t l.body (r.chooses text_item_use) s some))

  item_told : (res : Result (Unit {0}) Refusal) → Adds res (gap t ++ escaped (r.chooses text_item_use) s) w v → Does (call_value c) room res w v
  item_told (Ok x) h m lay =
      on_word (λ x. Told (verdict (setting w) room (call_value c) x) (Ok tt) w v) w t m lay at
      (λ rs l ls y.
      let m = inside (words t) rs l ls in
      let there = inside (words true) rs (with_body l (more_kids l.body (texted item_bytes) true)) ls in
      let beyond : Beyond w (placed (TextItem true) (worded true (appended item_bytes w))) =
      record { stage = past_grown w.stage item_bytes h.0; names = past_same w.names; frames = past_same w.frames; form = refl; indentation = refl } in
      told_small w room (call_value c) m v (clear rs l ls) (small rs l ls) safe y.holds
      (subst (λ z. Lays z v) (sym (item_next rs l ls)) (subst (λ z. Lays there z) (sym h.1) (lays_item t item_bytes rs l ls w h.0 y.holds))) (subst (λ z. Beyond w z) (sym h.1) beyond))
  item_told (Err e) h m lay =
      on_word (λ x. Told (verdict (setting w) room (call_value c) x) (Err e) w v) w t m lay at
      (λ rs l ls y.
      let i = w.indentation in
      let m = inside (words t) rs l ls in
      let more : stage i (next w.form (call_value c) m) ≡ stage i (between l ls) ++ flatten i (texted item_bytes) = ap (stage i) (item_next rs l ls) ∙ stage_kids i (texted item_bytes) true l ls in
      let full = told_small_full w room (call_value c) m (clear rs l ls) (small rs l ls) safe y.holds
      (omega (arith, h.2, ap length more, length-append (stage i (between l ls)) (flatten i (texted item_bytes)), ap length (flatten_texted i item_bytes), front_length w.stage (stage i m) y.holds.stage)) in
      subst (λ z. Told (verdict (setting w) room (call_value c) m) (Err z) w v) (sym h.0) (subst (λ z. Told (verdict (setting w) room (call_value c) m) (Err Stage) w z) (sym h.1) full))

  -- the same by what another rule chooses, where both choose alike
  pub item_by : {chosen : Use → ℕ → Bool} → r.chooses ≡ chosen → (res : Result (Unit {0}) Refusal) → Adds res (gap t ++ escaped (chosen text_item_use) s) w v → Does (call_value c) room res w v
  item_by e res h = item_told res (by_rule (λ x. Adds res (gap t ++ x) w v) r text_item_use s e h)
