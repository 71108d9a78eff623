-- A field begins whose value is an attribute: its name stands at the end of the open tag. Assumes nothing.
use Rattle.std.proofs.Common.{◌≡◌, ℕ, ◌+◌, ◌-◌, ◌<◌, ◌≤◌, true, List, [], ◌∷◌, length, get_or, take, drop, Some, None, Ok, Err, IsUtf8, rules, sym, refl, ap, subst, arith}
use lib.Utf8.{encodes}
use Rattle.std.proofs.lemmas.Grind.{common_steps}
use Rattle.std.proofs.lemmas.Bool.{not_from_true}
use Rattle.std.proofs.lemmas.List.{length-append}
use Rattle.std.proofs.lemmas.Str.{IsUtf8-append, IsUtf8-from_ascii}
use Rattle.refusal.specs.declared.Refusal.TheVariants.{Name, Stage}
use Rattle.xml.specs.Names.{name_fault}
use Rattle.xml.proofs.Naming.{faults_of}
use Rattle.model.specs.declared.place.Place.TheVariants.{Field, Attribute}
use Rattle.model.specs.Strings.{utf8}
use Rattle.model.specs.Calls.{call_field}
use Rattle.model.specs.Model.{Level, Outer, single, between, quote}
use Rattle.model.specs.Layout.{pending, outer_frames}
use Rattle.model.specs.Grounds.{behind}
use Rattle.model.specs.Table.{verdict}
use Rattle.model.proofs.Spelling.{utf8_true, utf8_from, well_formed_key}
use Rattle.engine.specs.Memory.{Mem, Safe, placed, in_tag}
use Rattle.engine.specs.Lays.{Lays, Holds, Beyond, setting, Told, Does}
use Rattle.engine.proofs.Spots.{on_field}
use Rattle.engine.proofs.Tags.{Tag, tag_depth, tag_size, tag_grows, tag_beyond}
use Rattle.engine.proofs.Telling.{Clear, Small, told_name, told_small, told_small_full}
use Rattle.fields.proofs.ChildKeys.{key_clear}

-- what follows the '@' of a well-formed key is well-formed
pub behind_at : (n : List ℕ) → utf8 (64 ∷ n) ≡ true → utf8 n ≡ true
behind_at n h = utf8_from n (well_formed_key (64 ∷ n) (utf8_true (64 ∷ n) h))

-- the key apart: its '@' and what follows
apart : (k : List ℕ) → 1 ≤ length k → get_or k 0 0 ≡ 64 → k ≡ 64 ∷ take (length k - 1) (drop 1 k)
apart [] h e = absurd (omega (arith, h))
apart (b ∷ bs) h e = grind (arith, common_steps)

pub behind_key : (k : List ℕ) → utf8 k ≡ true → 1 ≤ length k → get_or k 0 0 ≡ 64 → utf8 (take (length k - 1) (drop 1 k)) ≡ true
behind_key k u h e = behind_at (take (length k - 1) (drop 1 k)) (subst (λ x. utf8 x ≡ true) (apart k h e) u)

-- so is an '@' and what is well-formed
pub at_before : (n : List ℕ) → IsUtf8 n → utf8 (64 ∷ n) ≡ true
at_before n u = utf8_from (64 ∷ n) (IsUtf8-append (64 ∷ []) n (IsUtf8-from_ascii (64 ∷ []) (search rules)) u)

-- a fault lies within the bytes, or at their end
pub fault_within : (n : List ℕ) (k : ℕ) → IsUtf8 n → name_fault n ≡ Some k → k ≤ length n
fault_within n k u e =
    let f = (faults_of n u (Some k) (sym e)).0 in
    omega (arith, f.offset, ap length f.spelt, length-append (encodes f.front) f.here)

-- the record's frame stands on top, and its tag is open
pub field_open : (l : Level) (ls : List Outer) (w : Mem) → Holds (between l ls) w → Tag w l ls [] []
field_open l ls w h = record { stage = h.stage; frames = h.frames }

pub last_frame : (l : Level) (ls : List Outer) (w : Mem) → Holds (between l ls) w → w.frames.used ≡ length (outer_frames w.indentation ls) + 1
last_frame l ls w h = tag_depth w l ls [] [] (field_open l ls w h)

module _ (n : List ℕ) (l : Level) (ls : List Outer) (w : Mem) (room : w.stage.used + length (pending (single n)) ≤ length w.stage.all) (h : Holds (between l ls) w) where
  top : w.frames.used - 1 ≡ length (outer_frames w.indentation ls)
  top = omega (arith, last_frame l ls w h)

  tag : Tag w l ls [] []
  tag = field_open l ls w h

  lays_attribute : Lays (quote (single n) l ls) (placed Attribute (in_tag (w.frames.used - 1) (pending (single n)) w))
  lays_attribute =
      let grown : Tag (in_tag (w.frames.used - 1) (pending (single n)) w) l ls (pending (single n)) [] = tag_grows w l ls [] [] (w.frames.used - 1) top tag (pending (single n)) room in
      record { holds = record { stage = grown.stage; names = h.names; frames = grown.frames; records = h.records; wordy = h.wordy; fit = h.fit }; place = refl }

  beyond_attribute : Beyond w (placed Attribute (in_tag (w.frames.used - 1) (pending (single n)) w))
  beyond_attribute = tag_beyond w l ls [] [] (w.frames.used - 1) top tag (pending (single n)) Attribute room

-- the name is at fault: its place is told as it is in the key
pub attribute_misnamed : (n : List ℕ) (room k : ℕ) (w : Mem) → w.place ≡ Field → utf8 (64 ∷ n) ≡ true → name_fault n ≡ Some k → Does (call_field (64 ∷ n)) room (Err (Name (1 + k))) w w
attribute_misnamed n room k w at fine f m lay =
    on_field (λ y. Told (verdict (setting w) room (call_field (64 ∷ n)) y) (Err (Name (1 + k))) w w) w m lay at
    (λ l ls y. told_name w room (call_field (64 ∷ n)) (between l ls) (1 + k) refl (not_from_true (utf8 (64 ∷ n)) fine) refl refl (ap (behind 1) f))

module _ (n : List ℕ) (room : ℕ) (w : Mem) (safe : Safe w) (at : w.place ≡ Field) (fine : utf8 (64 ∷ n) ≡ true) (f : name_fault n ≡ None) where
  clear : (l : Level) (ls : List Outer) → Clear (call_field (64 ∷ n)) (between l ls)
  clear l ls = key_clear (64 ∷ n) l ls fine (ap (behind 1) f)

  small : (l : Level) (ls : List Outer) → Small (call_field (64 ∷ n)) (between l ls) w
  small l ls = record { brought = refl; takes = refl; handed = refl }

  pub attribute_key : (u : Mem) → w.stage.used + length (pending (single n)) ≤ length w.stage.all → u ≡ in_tag (w.frames.used - 1) (pending (single n)) w → Does (call_field (64 ∷ n)) room (Ok tt) w (placed Attribute u)
  attribute_key u fits is m lay =
      on_field (λ y. Told (verdict (setting w) room (call_field (64 ∷ n)) y) (Ok tt) w (placed Attribute u)) w m lay at
      (λ l ls y.
      told_small w room (call_field (64 ∷ n)) (between l ls) (placed Attribute u) (clear l ls) (small l ls) safe y.holds (subst (λ z. Lays (quote (single n) l ls) (placed Attribute z)) (sym is) (lays_attribute n l ls w fits y.holds))
      (subst (λ z. Beyond w (placed Attribute z)) (sym is) (beyond_attribute n l ls w fits y.holds)))

  -- there is no room for it
  pub attribute_full : length w.stage.all < w.stage.used + length (pending (single n)) → Does (call_field (64 ∷ n)) room (Err Stage) w w
  attribute_full h m lay =
      on_field (λ y. Told (verdict (setting w) room (call_field (64 ∷ n)) y) (Err Stage) w w) w m lay at
      (λ l ls y.
      told_small_full w room (call_field (64 ∷ n)) (between l ls) (clear l ls) (small l ls) safe y.holds
      (omega (arith, h, tag_size w l ls [] [] (field_open l ls w y.holds) (pending (single n)))))
