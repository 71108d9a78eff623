-- Bytes that pass the reader's first two steps unchanged: they are UTF-8, and hold no 13, so that no line end is handled.
use Rattle.std.proofs.Common.{◌≡◌, ℕ, zero, suc, ◌<◌, ◌≤◌, Bool, true, not, ◌&&◌, ltb, List, [], ◌∷◌, ◌++◌, get_or, codes, IsUtf8, refl, ap, subst, ⊎_elim, arith}
use lib.Utf8.{encode, encodes, scalar, scalars}
use Rattle.std.specs.List.{list_all}
use Rattle.std.proofs.lemmas.List.{append-nil}
use Rattle.std.proofs.lemmas.Grind.{flat_map-append}
use Rattle.std.proofs.lemmas.Str.{IsUtf8-append, IsUtf8-encode, IsUtf8-from_ascii, encode_ascii}
use Rattle.std.proofs.lemmas.Bool.{and_parts, cond_both, cases_lt, cases_Bool, ltb-true, not-true, not_from_false}
use Rattle.xml.specs.Names.{Name}
use Rattle.xml.specs.Escaping.{among, nine, must, replacement, piece, escaped, Lawful}
use Rattle.xml.specs.Reading.{Reference, lt, gt, apos, amp, quot, tab, line_feed, carriage_return, space}
use Rattle.xml.specs.declared.escape.Use.{Use}
use Rattle.xml.specs.declared.escape.Use.TheVariants.{Text, Attribute, TextItem, AttributeItem}
use Rattle.xml.specs.Back.{free}
use Rattle.xml.specs.Levels.{of_each}
use Rattle.xml.proofs.Nine.{nine_reference, nines, inside}
use Rattle.xml.proofs.Free.{apart, free-++, free_escaped}
use Rattle.reader.specs.Trees.{Bytes}
use Rattle.reader.proofs.Bytewise.{Each, each_here, each_rest, each_weaker, each_free}
use Rattle.reader.proofs.Characters.{char_each, delimiters, name_plain, name_utf8}

pub record Sound (s : Bytes) : Type 0 where
  pub returnless : free (13 ∷ []) s ≡ true
  pub utf8 : IsUtf8 s

-- bytes that the reader takes by the rule R as a, wherever they stand
pub record Written {A : Type 0} (R : Bytes → A → Type 0) (s : Bytes) (a : A) : Type 0 where
  pub reads : R s a
  pub sound : Sound s

pub sound-++ : {s t : Bytes} → Sound s → Sound t → Sound (s ++ t)
sound-++ {s} {t} h k = record { returnless = free-++ (13 ∷ []) s t h.returnless k.returnless; utf8 = IsUtf8-append s t h.utf8 k.utf8 }

-- ASCII other than 13
abbrev pub mild : ℕ → Bool
mild b = ltb b 128 && not (among b (13 ∷ []))

pub sound_mild : {s : Bytes} → Each mild s → Sound s
sound_mild {s} h = record { returnless = each_free (13 ∷ []) (each_weaker (λ b. not (among b (13 ∷ []))) (λ b e. (and_parts (ltb b 128) (not (among b (13 ∷ []))) e).1) h); utf8 = IsUtf8-from_ascii s (ascii s h) }
  where
    ascii : (s : Bytes) → Each mild s → (i : ℕ) → get_or s i 0 < 128
    ascii [] h i = omega arith
    ascii (b ∷ s) h zero = ltb-true b 128 (and_parts (ltb b 128) (not (among b (13 ∷ []))) (each_here h)).0
    ascii (b ∷ s) h (suc i) = ascii s (each_rest h) i

-- bytes that are written out: `sound_bytes (codes "</") refl`
pub sound_bytes : (s : Bytes) → list_all mild s ≡ true → Sound s
sound_bytes s e = sound_mild (record { is = e })

pub sound_name : {n : Bytes} → Name n → Sound n
sound_name h = record { returnless = each_free (13 ∷ []) (each_weaker (λ b. not (among b (13 ∷ []))) (λ b e. rw (apart b 13 delimiters (not-true (among b delimiters) e) refl)) (name_plain h)); utf8 = name_utf8 h }

-- each of the nine references
pub reference_mild : {r : Bytes} {b : ℕ} → Reference r b → (x : Bytes) × (r ≡ 38 ∷ x) × Each mild r
reference_mild lt = (codes "lt;", refl, record { is = refl })
reference_mild gt = (codes "gt;", refl, record { is = refl })
reference_mild apos = (codes "apos;", refl, record { is = refl })
reference_mild amp = (codes "amp;", refl, record { is = refl })
reference_mild quot = (codes "quot;", refl, record { is = refl })
reference_mild tab = (codes "#9;", refl, record { is = refl })
reference_mild line_feed = (codes "#10;", refl, record { is = refl })
reference_mild carriage_return = (codes "#13;", refl, record { is = refl })
reference_mild space = (codes "#32;", refl, record { is = refl })

nine_low : (b : ℕ) → nine b ≡ true → b < 128
nine_low b e = of_each (λ x. x < 128) nines b (omega arith) e

module _ (chosen : ℕ → Bool) where
  unchosen : {s : Bytes} → Each (λ b. not (chosen b)) s → escaped chosen s ≡ s
  unchosen {s = []} h = refl
  unchosen {s = b ∷ s} h = rw (not-true (chosen b) (each_here h)) (ap (λ x. b ∷ x) (unchosen (each_rest h)))

  module _ (within : (b : ℕ) → chosen b ≡ true → nine b ≡ true) where
    high_unchosen : (b : ℕ) → 128 ≤ b → not (chosen b) ≡ true
    high_unchosen b h = not_from_false (chosen b) (⊎_elim (λ e. absurd (omega (arith, nine_low b (within b e)))) (λ e. e) (cases_Bool (chosen b)))

    char_utf8 : (c : ℕ) → scalar c ≡ true → IsUtf8 (escaped chosen (encode c))
    char_utf8 c e = ⊎_elim low high (cases_lt c 128)
      where
        low : c < 128 → IsUtf8 (escaped chosen (encode c))
        low h =
            rw (encode_ascii c h, append-nil)
            (cond_both (chosen c) (replacement c) (c ∷ []) IsUtf8 (λ k. (sound_mild (reference_mild (nine_reference c (within c k))).2).utf8) (λ _. subst IsUtf8 (encode_ascii c h) (IsUtf8-encode c e)))

        high : 128 ≤ c → IsUtf8 (escaped chosen (encode c))
        high h = rw (unchosen (char_each (λ b. not (chosen b)) c (λ k. absurd (omega arith)) high_unchosen)) (IsUtf8-encode c e)

    chars_utf8 : (cs : List ℕ) → scalars cs ≡ true → IsUtf8 (escaped chosen (encodes cs))
    chars_utf8 [] e = ([], (refl, refl))
    chars_utf8 (c ∷ cs) e =
        let h = and_parts (scalar c) (scalars cs) e in
        rw (flat_map-append (piece chosen) (encode c) (encodes cs)) (IsUtf8-append (escaped chosen (encode c)) (escaped chosen (encodes cs)) (char_utf8 c h.0) (chars_utf8 cs h.1))

    -- a text escaped is a text
    pub escaped_utf8 : {s : Bytes} → IsUtf8 s → IsUtf8 (escaped chosen s)
    escaped_utf8 u = subst (λ s. IsUtf8 (escaped chosen s)) u.1.1 (chars_utf8 u.0 u.1.0)

-- every use asks for 13
asks_return : (u : Use) → inside (13 ∷ []) (must u) ≡ true
asks_return Text = refl
asks_return Attribute = refl
asks_return TextItem = refl
asks_return AttributeItem = refl

-- an escaped text is sound in every use
pub sound_escaped : {u : Use} {chosen : ℕ → Bool} {s : Bytes} → Lawful u chosen → IsUtf8 s → Sound (escaped chosen s)
sound_escaped {u} {chosen} {s} l h = record { returnless = free_escaped l (13 ∷ []) (asks_return u) refl s; utf8 = escaped_utf8 chosen l.within h }
