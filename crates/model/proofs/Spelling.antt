-- Strings that the table lets through are well-formed, and names that it lets through are names.
use Rattle.std.proofs.Common.{◌≡◌, ℕ, Bool, true, false, cond, eqb, List, [], ◌∷◌, ◌++◌, Some, None, IsUtf8, Option, sym, refl, ap, ◌∙◌, arith}
use lib.Utf8.{scalars, encodes}
use Rattle.std.specs.Str.{chars, bytes_eq}
use Rattle.std.proofs.lemmas.Bool.{and_parts, and_from, eqb-true}
use Rattle.std.proofs.lemmas.Slice.Eq.{bytes_eq-Decides}
use Rattle.std.proofs.lemmas.Str.{encodes-chars, scalars-chars, encode_ascii, IsUtf8-past_char}
use Rattle.reader.specs.Trees.{Bytes}
use Rattle.model.specs.Strings.{utf8}
use Rattle.model.specs.Calls.{Key, key_attribute, key_text, key_value, key_element, key, is_text_name, is_value_name}
use Rattle.model.specs.Grounds.{behind}

pub utf8_true : (bs : Bytes) → utf8 bs ≡ true → IsUtf8 bs
utf8_true bs e =
    let h = and_parts (scalars (chars bs)) (bytes_eq (encodes (chars bs)) bs) e in
    (chars bs, (h.0, (bytes_eq-Decides (encodes (chars bs)) bs).0 h.1))

pub utf8_from : (bs : Bytes) → IsUtf8 bs → utf8 bs ≡ true
utf8_from bs u = and_from (scalars (chars bs)) (bytes_eq (encodes (chars bs)) bs) (scalars-chars bs u) ((bytes_eq-Decides (encodes (chars bs)) bs).1 (encodes-chars bs u))

pub behind_none : (k : ℕ) (o : Option ℕ) → behind k o ≡ None → o ≡ None
behind_none k None e = refl
behind_none k (Some n) e = let z : ◌≡◌ {A = ℕ} 0 1 = cc in absurd (omega (arith, z))

-- what a key leads to is well-formed where the key is
abbrev pub WellFormedKey : Key → Type 0
WellFormedKey (key_attribute k) = IsUtf8 k
WellFormedKey key_text = Unit {0}
WellFormedKey key_value = Unit {0}
WellFormedKey (key_element n) = IsUtf8 n

pub well_formed_key : (k : Bytes) → IsUtf8 k → WellFormedKey (key k)
well_formed_key [] u = u
well_formed_key (b ∷ bs) u = go (eqb b 64) refl
  where
    inner : (t v : Bool) → WellFormedKey (cond t key_text (cond v key_value (key_element (b ∷ bs))))
    inner true v = tt
    inner false true = tt
    inner false false = u

    go : (t : Bool) → eqb b 64 ≡ t → WellFormedKey (cond t (key_attribute bs) (cond (is_text_name (b ∷ bs)) key_text (cond (is_value_name (b ∷ bs)) key_value (key_element (b ∷ bs)))))
    go true e = IsUtf8-past_char (b ∷ bs) bs 64 u (ap (λ (x : ℕ). x ∷ bs) (eqb-true b 64 e) ∙ sym (ap (λ (x : List ℕ). x ++ bs) (encode_ascii 64 (omega arith))))
    go false e = inner (is_text_name (b ∷ bs)) (is_value_name (b ∷ bs))
