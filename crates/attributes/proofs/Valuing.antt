-- The value of an attribute: bytes behind its name and then the closing quote, or a list. Assumes nothing.
use Rattle.std.proofs.Common.{◌≡◌, ℕ, ◌-◌, true, false, List, [], ◌∷◌, ◌++◌, Some, codes, Result, sym, refl, ap, ◌∙◌, subst, append_assoc}
use Rattle.std.proofs.lemmas.List.{append-nil}
use Rattle.std.proofs.lemmas.Bool.{not_from_true, and_right}
use Rattle.refusal.specs.declared.Refusal.{Refusal}
use Rattle.xml.specs.declared.escape.Use.TheVariants.{Attribute as attribute_use}
use Rattle.xml.specs.Escaping.{escaped}
use Rattle.model.specs.declared.place.Place.TheVariants.{Field, Attribute, AttributeItem}
use Rattle.model.specs.Strings.{utf8}
use Rattle.model.specs.Calls.{Rule, Value, call_value, val_row}
use Rattle.model.specs.Marks.{flatten}
use Rattle.model.specs.Model.{single, several, between, quote}
use Rattle.model.specs.Step.{closed, put_single, requoted_if, with_attribute, attribute}
use Rattle.model.specs.Layout.{pending, tag_end, record_frame, outer_frames, list_frame}
use Rattle.model.specs.Grounds.{value_string, is_text, no_text}
use Rattle.model.specs.Table.{verdict, or_stay, value_opens}
use Rattle.engine.specs.Memory.{Mem, Safe, in_tag, pushed}
use Rattle.engine.specs.Lays.{IsString, setting, Told, Does}
use Rattle.engine.proofs.Fronts.{front_as, front_push}
use Rattle.engine.proofs.Tags.{Tag}
use Rattle.engine.proofs.Strings.{alike}
use Rattle.engine.proofs.Begins.{lays_placed}
use Rattle.engine.proofs.Spots.{on_attribute}
use Rattle.nests.specs.Frames.{Pushes}
use Rattle.nests.proofs.Pushing.{row_opens}
use Rattle.nests.proofs.Rowing.{pushes_told}
use Rattle.attributes.specs.Inserts.{Inserts}
use Rattle.attributes.proofs.Quotes.{inserts_told, holds_attribute, stage_attribute}
use Rattle.attributes.proofs.Standing.{single_frame}

-- the name, the value and the quotes in one
attribute_is : (k s : List ℕ) → pending (single k) ++ (s ++ codes "\"") ≡ attribute k s
attribute_is k s = go (codes " ") (codes "=\"") (codes "\"")
  where
    go : (a b c : List ℕ) → (a ++ (k ++ b)) ++ (s ++ c) ≡ a ++ (k ++ (b ++ (s ++ c)))
    go a b c = simp append_assoc

-- a value that is complete at once
pub single_told : (c : Value) (room : ℕ) (w v : Mem) (r : Result (Unit {0}) Refusal) (s : List ℕ) → w.place ≡ Attribute → utf8 (value_string c) ≡ true → no_text c ≡ false → value_opens c ≡ false → ((k : List ℕ) → put_single k c ≡ Some (closed (attribute k s))) → Safe w → Inserts r (w.frames.used - 1) (s ++ codes "\"") Field w v → Does (call_value c) room r w v
single_told c room w v r s at fine shape small put safe y m lay =
    on_attribute (λ x. Told (verdict (setting w) room (call_value c) x) r w v) w m lay at
    (λ k l ls z.
    let i = w.indentation in
    let here = quote (single k) l ls in
    let n = w.frames.used - 1 in
    let bs = s ++ codes "\"" in
    let h = z.holds in
    let whole = attribute_is k s in
    inserts_told room (call_value c) (single k) l ls w v n bs r Field (between (with_attribute l (attribute k s)) ls)
    (record { order = refl; bytes = not_from_true (utf8 (value_string c)) fine; shape = shape; text = and_right (is_text c) false refl; name = refl }) (record { brought = refl; takes = small; handed = refl })
    safe z (single_frame k l ls w h) (ap (λ o. or_stay here (requoted_if l ls o)) (put k)) refl
    (stage_attribute i l ls (attribute k s) ∙ ap (λ a. tag_end i l ls a ++ flatten i l.body.kids) (sym whole))
    (λ t. holds_attribute l ls (in_tag n bs w) (attribute k s) (subst (λ a. Tag (in_tag n bs w) l ls a []) whole t) h.names h.records h.wordy h.fit) y)

-- the list is empty still
pub attribute_list : (room : ℕ) (w v : Mem) (r : Result (Unit {0}) Refusal) → Safe w → w.place ≡ Attribute → Pushes r list_frame (AttributeItem false) w v → Does (call_value val_row) room r w v
attribute_list room w v r safe at y m lay =
    on_attribute (λ x. Told (verdict (setting w) room (call_value val_row) x) r w v) w m lay at
    (λ k l ls z.
    let i = w.indentation in
    let h = z.holds in
    let p = pending (single k) in
    let p' = pending (several k [] false) in
    let same : p ≡ p' = ap (λ s. codes " " ++ (k ++ s)) (sym (append-nil (codes "=\""))) in
    let kids = flatten i l.body.kids in
    let xs = outer_frames i ls in
    pushes_told room (call_value val_row) (quote (single k) l ls) w v r list_frame list_frame (AttributeItem false) (AttributeItem false)
    (row_opens (quote (single k) l ls) w refl refl refl refl) safe h refl refl
    (λ free. lays_placed (quote (several k [] false) l ls) (AttributeItem false) (pushed list_frame w) refl (record {
      stage = front_as w.stage (tag_end i l ls p ++ kids) (tag_end i l ls p' ++ kids) (ap (λ s. tag_end i l ls s ++ kids) same) h.stage;
      names = h.names;
      frames = front_as (pushed list_frame w).frames ((xs ++ (record_frame i l ls p ∷ [])) ++ (list_frame ∷ [])) (xs ++ (record_frame i l ls p' ∷ (list_frame ∷ [])))
          (append_assoc xs (record_frame i l ls p ∷ []) (list_frame ∷ []) ∙ ap (λ s. xs ++ (record_frame i l ls s ∷ (list_frame ∷ []))) same) (front_push w.frames (xs ++ (record_frame i l ls p ∷ [])) list_frame free h.frames);
      records = h.records;
      wordy = h.wordy;
      fit = h.fit;
    })) y)

-- a text, or a variant's name, and its quote
pub attribute_string : (room : ℕ) (w v : Mem) (c : Value) (ρ : Rule) (s : List ℕ) (r : Result (Unit {0}) Refusal) → IsString c ρ s → w.place ≡ Attribute → Safe w → utf8 s ≡ true → Inserts r (w.frames.used - 1) (escaped (ρ.chooses attribute_use) s ++ codes "\"") Field w v → Does (call_value c) room r w v
attribute_string room w v c ρ s r is at safe fine y =
    let k = alike c ρ s is in
    single_told c room w v r (escaped (ρ.chooses attribute_use) s) at (ap utf8 k.string ∙ fine) k.shape k.small k.single safe y
