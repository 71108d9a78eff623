-- The bytes of characters: one byte below 128, or bytes that are all 128 and more, so that a name holds no delimiter.
use Rattle.std.proofs.Common.{◌≡◌, ℕ, ◌+◌, ◌/◌, ◌<◌, ◌≤◌, Bool, true, not, ltb, List, [], ◌∷◌, length, IsUtf8, refl, ap, subst, arith}
use lib.Utf8.{encode, encodes, next}
use Rattle.std.specs.List.{list_all}
use Rattle.std.proofs.lemmas.Str.{length-le-encodes}
use Rattle.std.proofs.lemmas.Bool.{and_parts, and_from, cond_both, ltb-true, false≢true, not_from_false, or_left}
use Rattle.xml.specs.Names.{Name, is_start, is_name_char, is_name, within, further_ranges}
use Rattle.xml.specs.Escaping.{among}
use Rattle.reader.specs.Trees.{Bytes}
use Rattle.reader.proofs.Bytewise.{Each, each_more, each-++, not_among}

-- a test that a character passes as a byte, if it is one, and that all bytes from 128 on pass
pub char_each : (p : ℕ → Bool) (c : ℕ) → (c < 128 → p c ≡ true) → ((b : ℕ) → 128 ≤ b → p b ≡ true) → Each p (encode c)
unfolding encode
char_each p c low high =
    cond_both (ltb c 128) _ _ (Each p) (λ e. each_more c [] (low (ltb-true c 128 e)) none) (λ _.
    cond_both (ltb c 2048) _ _ (Each p) (λ _. lead (192 + c / 64) (omega arith) (lead (next c) (omega arith) none)) (λ _.
    cond_both (ltb c 65536) _ _ (Each p)
    (λ _. lead (224 + c / 4096) (omega arith) (lead (next (c / 64)) (omega arith) (lead (next c) (omega arith) none)))
    (λ _. lead (240 + c / 262144) (omega arith) (lead (next (c / 4096)) (omega arith) (lead (next (c / 64)) (omega arith) (lead (next c) (omega arith) none))))))
  where
    none : Each p []
    none = record { is = refl }

    lead : (b : ℕ) {s : Bytes} → 128 ≤ b → Each p s → Each p (b ∷ s)
    lead b {s} h k = each_more b s (high b h) k

-- the bytes that end a name in a tag, and 13
abbrev pub delimiters : Bytes
delimiters = 13 ∷ 32 ∷ 34 ∷ 47 ∷ 61 ∷ 62 ∷ []

abbrev pub plain : ℕ → Bool
plain b = not (among b delimiters)

high_plain : (b : ℕ) → 128 ≤ b → plain b ≡ true
high_plain b h = not_from_false (among b delimiters) (not_among (λ x. 128 ≤ x) delimiters (omega arith) b h)

name_char_plain : (c : ℕ) → is_name_char c ≡ true → plain c ≡ true
name_char_plain c e =
    not_from_false (among c delimiters) (not_among (λ x. is_name_char x ≡ true) delimiters (false≢true, (false≢true, (false≢true, (false≢true, (false≢true, (false≢true, tt)))))) c e)

name_chars_plain : (cs : List ℕ) → list_all is_name_char cs ≡ true → Each plain (encodes cs)
name_chars_plain [] e = record { is = refl }
name_chars_plain (c ∷ cs) e =
    let h = and_parts (is_name_char c) (list_all is_name_char cs) e in
    each-++ (char_each plain c (λ _. name_char_plain c h.0) high_plain) (name_chars_plain cs h.1)

is_name_chars : (cs : List ℕ) → is_name cs ≡ true → (list_all is_name_char cs ≡ true) × (0 < length cs)
is_name_chars [] e = absurd (false≢true e)
is_name_chars (c ∷ cs) e =
    let h = and_parts (is_start c) (list_all is_name_char cs) e in
    (and_from (is_name_char c) (list_all is_name_char cs) (or_left (is_start c) (within further_ranges c) h.0) h.1, omega arith)

-- a name holds no delimiter
pub name_plain : {n : Bytes} → Name n → Each plain n
name_plain h = subst (Each plain) h.spelt (name_chars_plain h.chars (is_name_chars h.chars h.is).0)

-- and it is not empty
pub name_first : {n : Bytes} → Name n → (b : ℕ) × (s : Bytes) × (n ≡ b ∷ s)
name_first {n} h =
    let k = is_name_chars h.chars h.is in
    first n (omega (arith, length-le-encodes h.chars, ap length h.spelt))
  where
    first : (n : Bytes) → 0 < length n → (b : ℕ) × (s : Bytes) × (n ≡ b ∷ s)
    first [] k = absurd (omega arith)
    first (b ∷ s) k = (b, s, refl)

pub name_utf8 : {n : Bytes} → Name n → IsUtf8 n
name_utf8 h = (h.chars, (h.scalar, h.spelt))
