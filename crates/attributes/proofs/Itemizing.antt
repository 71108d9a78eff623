-- The items of a list that is an attribute's value, and its end. Assumes nothing.
use Rattle.std.proofs.Common.{◌≡◌, ℕ, ◌+◌, ◌-◌, ◌<◌, ◌≤◌, Bool, true, false, List, [], ◌∷◌, ◌++◌, length, Some, Ok, Err, codes, Result, sym, refl, ap, ◌∙◌, subst, append_assoc, arith}
use Rattle.std.proofs.lemmas.Bool.{not_from_true, and_right}
use Rattle.refusal.specs.declared.Refusal.{Refusal}
use Rattle.refusal.specs.declared.Refusal.TheVariants.{Stage}
use Rattle.xml.specs.declared.escape.Use.TheVariants.{AttributeItem as attribute_item_use}
use Rattle.xml.specs.Escaping.{escaped}
use Rattle.model.specs.declared.place.Place.TheVariants.{Field, AttributeItem}
use Rattle.model.specs.Strings.{utf8}
use Rattle.model.specs.Calls.{Rule, Value, call_value, call_end}
use Rattle.model.specs.Marks.{flatten}
use Rattle.model.specs.Model.{Level, Outer, several, between, quote}
use Rattle.model.specs.Step.{still, gap, quoted_item, requoted_if, with_attribute, attribute}
use Rattle.model.specs.Layout.{pending, tag_end, record_frame, outer_frames, list_frame, quote_frames}
use Rattle.model.specs.Grounds.{value_string, is_text}
use Rattle.model.specs.Table.{verdict, or_stay}
use Rattle.engine.specs.Memory.{Mem, Safe, in_tag, placed, popped}
use Rattle.engine.specs.Lays.{IsString, Lays, Beyond, setting, Told, Does}
use Rattle.engine.proofs.Fronts.{front_as, past_same, past_set}
use Rattle.engine.proofs.Strings.{alike}
use Rattle.engine.proofs.Tags.{Tag, tag_grows, tag_past}
use Rattle.engine.proofs.Begins.{lays_placed}
use Rattle.engine.proofs.Telling.{told_small}
use Rattle.engine.proofs.Spots.{on_attribute_item}
use Rattle.nests.proofs.Leaving.{front_pop, end_clear, end_small}
use Rattle.attributes.specs.Inserts.{Inserts}
use Rattle.attributes.proofs.Quotes.{quote_tag, quote_depth, quote_full, inserts_told, holds_attribute, stage_attribute}
use Rattle.attributes.proofs.Standing.{several_frame}

-- more of the list's value
several_more : (k s x : List ℕ) (t : Bool) → pending (several k s t) ++ x ≡ pending (several k (s ++ x) true)
several_more k s x t = go (codes " ") (codes "=\"")
  where
    go : (a b : List ℕ) → (a ++ (k ++ (b ++ s))) ++ x ≡ a ++ (k ++ (b ++ (s ++ x)))
    go a b = simp append_assoc

-- all of it, and the closing quote
several_whole : (k s : List ℕ) (t : Bool) → pending (several k s t) ++ codes "\"" ≡ attribute k s
several_whole k s t = go (codes " ") (codes "=\"") (codes "\"")
  where
    go : (a b c : List ℕ) → (a ++ (k ++ (b ++ s))) ++ c ≡ a ++ (k ++ (b ++ (s ++ c)))
    go a b c = simp append_assoc

-- an item that is not empty
item_some : (k s x : List ℕ) (t : Bool) (chosen : ℕ → Bool) → (length x ≡ 0 → ⊥) → quoted_item k s t chosen x ≡ still (several k (s ++ (gap t ++ escaped chosen x)) true)
item_some k s [] t chosen e = absurd (e refl)
item_some k s (b ∷ x) t chosen e = refl

-- a space where an item was written before, and the item
pub item_written : (room : ℕ) (w v : Mem) (t : Bool) (c : Value) (ρ : Rule) (x : List ℕ) (r : Result (Unit {0}) Refusal) → IsString c ρ x → w.place ≡ AttributeItem t → Safe w → utf8 x ≡ true → (length x ≡ 0 → ⊥) → Inserts r (w.frames.used - 2) (gap t ++ escaped (ρ.chooses attribute_item_use) x) (AttributeItem true) w v → Does (call_value c) room r w v
item_written room w v t c ρ x r is at safe fine some y m lay =
    on_attribute_item (λ a. Told (verdict (setting w) room (call_value c) a) r w v) w t m lay at
    (λ k s l ls z.
    let i = w.indentation in
    let h = z.holds in
    let a = alike c ρ x is in
    let n = w.frames.used - 2 in
    let chosen = ρ.chooses attribute_item_use in
    let bs = gap t ++ escaped chosen x in
    let here = quote (several k s t) l ls in
    let more = several_more k s bs t in
    inserts_told room (call_value c) (several k s t) l ls w v n bs r (AttributeItem true) (quote (several k (s ++ bs) true) l ls)
    (record { order = refl; bytes = not_from_true (utf8 (value_string c)) (ap utf8 a.string ∙ fine); shape = a.listed; text = and_right (is_text c) false refl; name = refl }) (record { brought = refl; takes = a.small; handed = refl })
    safe z (several_frame k s t l ls w h) (ap (λ o. or_stay here (requoted_if l ls o)) (a.several k s t ∙ ap Some (item_some k s x t chosen some))) refl
    (ap (λ p. tag_end i l ls p ++ flatten i l.body.kids) (sym more))
    (λ g.
    let g' = subst (λ p. Tag (in_tag n bs w) l ls p (list_frame ∷ [])) more g in
    record { stage = g'.stage; names = h.names; frames = g'.frames; records = h.records; wordy = h.wordy; fit = h.fit }) y)

-- the list's frame is free again
tag_left : (w : Mem) (l : Level) (ls : List Outer) (p : List ℕ) → Tag w l ls p (list_frame ∷ []) → Tag (popped w) l ls p []
tag_left w l ls p t =
    let i = w.indentation in
    let xs = outer_frames i ls in
    let f = record_frame i l ls p in
    record {
      stage = t.stage;
      frames = front_pop w.frames (xs ++ (f ∷ [])) list_frame (front_as w.frames (xs ++ (f ∷ (list_frame ∷ []))) ((xs ++ (f ∷ [])) ++ (list_frame ∷ [])) (sym (append_assoc xs (f ∷ []) (list_frame ∷ []))) t.frames);
    }

module _ (room : ℕ) (w : Mem) (t : Bool) (safe : Safe w) (at : w.place ≡ AttributeItem t) where
  -- the closing quote fits
  pub list_end : (v : Mem) → w.stage.used + 1 ≤ length w.stage.all → v ≡ popped (placed Field (in_tag (w.frames.used - 2) (codes "\"") w)) → Does call_end room (Ok tt) w v
  list_end v fits is m lay =
      on_attribute_item (λ a. Told (verdict (setting w) room call_end a) (Ok tt) w v) w t m lay at
      (λ k s l ls z.
      let h = z.holds in
      let q = several k s t in
      let n = w.frames.used - 2 in
      let bs = codes "\"" in
      let next = between (with_attribute l (attribute k s)) ls in
      let there = several_frame k s t l ls w h in
      let tag = quote_tag q l ls w h in
      let grown = subst (λ a. Tag (in_tag n bs w) l ls a (list_frame ∷ [])) (several_whole k s t) (tag_grows w l ls (pending q) (quote_frames q) n there tag bs fits) in
      let laid = lays_placed next Field (popped (in_tag n bs w)) refl (holds_attribute l ls (popped (in_tag n bs w)) (attribute k s) (tag_left (in_tag n bs w) l ls (attribute k s) grown) h.names h.records h.wordy h.fit) in
      let beyond : Beyond w (popped (placed Field (in_tag n bs w))) =
      record {
        stage = tag_past w l ls (pending q) (quote_frames q) n there tag bs fits;
        names = past_same w.names;
        frames = past_set w.frames n (w.frames.used - 1) _ (omega (arith, quote_depth q l ls w h));
        form = refl;
        indentation = refl;
      } in
      told_small w room call_end (quote q l ls) v (end_clear (quote q l ls) refl) (end_small (quote q l ls) w) safe h (subst (λ a. Lays next a) (sym is) laid) (subst (λ a. Beyond w a) (sym is) beyond))

  -- it does not
  pub list_full : length w.stage.all < w.stage.used + 1 → Does call_end room (Err Stage) w w
  list_full full m lay =
      on_attribute_item (λ a. Told (verdict (setting w) room call_end a) (Err Stage) w w) w t m lay at
      (λ k s l ls z.
      let i = w.indentation in
      let q = several k s t in
      let a = attribute k s in
      quote_full room call_end q l ls w (codes "\"") (between (with_attribute l a) ls) (end_clear (quote q l ls) refl) (end_small (quote q l ls) w) safe z refl
      (stage_attribute i l ls a ∙ ap (λ b. tag_end i l ls b ++ flatten i l.body.kids) (sym (several_whole k s t))) full)
