-- Reading byte by byte and falling into pieces are the same: each way by induction.
use Rattle.std.proofs.Common.{◌≡◌, ℕ, ◌+◌, ◌*◌, List, [], ◌∷◌, ◌++◌, Some, None, Option, sym, refl, ap, ◌∙◌, subst, ⊎_elim, arith, ne_eqb}
use Rattle.std.specs.List.{flat_map}
use Rattle.std.proofs.lemmas.Bool.{cases_eq, cond-false}
use Rattle.std.proofs.lemmas.Option.{none-some}
use Rattle.std.proofs.lemmas.Bool.Decides.{nat_tests}
use Rattle.script.specs.declared.escapes.Place.{Place}
use Rattle.script.specs.declared.escapes.Place.TheVariants.{Outside, Slash, Digits, Digit}
use Rattle.script.specs.Cuts.{behind}
use Rattle.script.specs.Escapes.{hex_digit, escape_letter, escape_step, first_digit, second_digit, led, onward, unescaped_from, unescaped}
use Rattle.script.specs.Pieces.{Piece, itself, line_feed, carriage_return, tab, backslash, digits, written, two_digits, byte_of, with_byte, bytes_of, StandsFor, ReadByPieces, AnyBytes}

-- a piece in front is read as its byte
piece_read : (p : Piece) (b : ℕ) (t : List ℕ) → byte_of p ≡ Some b → unescaped (written p ++ t) ≡ led (b ∷ []) (unescaped t)
piece_read (itself x) b t e = grind (arith, nat_tests)
piece_read line_feed b t e = cc
piece_read carriage_return b t e = cc
piece_read tab b t e = cc
piece_read backslash b t e = cc
piece_read (digits h l) b t e = grind (arith, nat_tests)

-- pieces are read as their bytes
all_read : (ps : List Piece) (bs : List ℕ) → bytes_of ps ≡ Some bs → unescaped (flat_map written ps) ≡ Some bs
all_read [] bs e = e
all_read (p ∷ ps) bs e = grind (arith, piece_read p, all_read ps)

-- what is read falls into pieces

stands_cons : (p : Piece) (b : ℕ) {t bs : List ℕ} → byte_of p ≡ Some b → StandsFor t bs → StandsFor (written p ++ t) (b ∷ bs)
stands_cons p b {t} {bs} e s = record {
  pieces = p ∷ s.pieces;
  spelt = ap (λ l. written p ++ l) s.spelt;
  bytes = ap (λ o. with_byte o (bytes_of s.pieces)) e ∙ ap (led (b ∷ [])) s.bytes;
}

-- what is read from a place on falls into pieces, with what led to the place in front
abbrev ReadsOn : Place → List ℕ → List ℕ → Type 0
ReadsOn p front t = (bs : List ℕ) → unescaped_from p t ≡ Some bs → StandsFor (front ++ t) bs

-- one byte and the rest
with_rest : (p : Piece) (b : ℕ) (t : List ℕ) (o : Option (List ℕ)) (bs : List ℕ) → byte_of p ≡ Some b → ReadsOn Outside [] t → unescaped t ≡ o → led (b ∷ []) o ≡ Some bs → StandsFor (written p ++ t) bs
with_rest p b t None bs h r k e = absurd (none-some _ e)
with_rest p b t (Some cs) bs h r k e = let same : b ∷ cs ≡ bs = cc in subst (StandsFor (written p ++ t)) same (stands_cons p b h (r cs k))

outside_step : (b : ℕ) (t bs : List ℕ) → ReadsOn Outside [] t → ReadsOn Slash (92 ∷ []) t → onward (escape_step Outside b) (λ q. unescaped_from q t) ≡ Some bs → StandsFor (b ∷ t) bs
outside_step b t bs o s e =
    let by : byte_of (itself b) ≡ Some b → led (b ∷ []) (unescaped t) ≡ Some bs → StandsFor (b ∷ t) bs = λ h k. with_rest (itself b) b t (unescaped t) bs h o refl k in
    grind (arith, nat_tests, by, s bs)

slash_step : (c : ℕ) (t bs : List ℕ) → ReadsOn Outside [] t → ReadsOn Digits (92 ∷ 120 ∷ []) t → onward (escape_letter c) (λ q. unescaped_from q t) ≡ Some bs → StandsFor (92 ∷ c ∷ t) bs
slash_step c t bs o d e =
    let by : (p : Piece) (b : ℕ) → byte_of p ≡ Some b → led (b ∷ []) (unescaped t) ≡ Some bs → StandsFor (written p ++ t) bs = λ p b h k. with_rest p b t (unescaped t) bs h o refl k in
    grind (arith, nat_tests, by line_feed 10 refl, by carriage_return 13 refl, by tab 9 refl, by backslash 92 refl, d bs)

first_step : (h : ℕ) (t bs : List ℕ) (o : Option ℕ) → hex_digit h ≡ o → ((m : ℕ) → hex_digit h ≡ Some m → ReadsOn (Digit m) (92 ∷ 120 ∷ h ∷ []) t) → onward (first_digit o) (λ q. unescaped_from q t) ≡ Some bs → StandsFor (92 ∷ 120 ∷ h ∷ t) bs
first_step h t bs None k d e = absurd (none-some _ e)
first_step h t bs (Some m) k d e = d m k bs e

second_step : (h m l : ℕ) (t bs : List ℕ) (o : Option ℕ) → hex_digit h ≡ Some m → hex_digit l ≡ o → ReadsOn Outside [] t → onward (second_digit m o) (λ q. unescaped_from q t) ≡ Some bs → StandsFor (92 ∷ 120 ∷ h ∷ l ∷ t) bs
second_step h m l t bs None k j r e = absurd (none-some _ e)
second_step h m l t bs (Some n) k j r e = with_rest (digits h l) (m * 16 + n) t (unescaped t) bs (ap (λ x. two_digits x (hex_digit l)) k ∙ ap (two_digits (Some m)) j) r refl e

-- what is read of a text falls into pieces, from every place
record Falls (t : List ℕ) : Type 0 where
  pub outside : ReadsOn Outside [] t
  pub slash : ReadsOn Slash (92 ∷ []) t
  pub digits : ReadsOn Digits (92 ∷ 120 ∷ []) t
  pub digit : (h m : ℕ) → hex_digit h ≡ Some m → ReadsOn (Digit m) (92 ∷ 120 ∷ h ∷ []) t

falls : (t : List ℕ) → Falls t
falls [] = record {
  outside = λ bs e. record { pieces = []; spelt = refl; bytes = e };
  slash = λ bs e. absurd (none-some _ e);
  digits = λ bs e. absurd (none-some _ e);
  digit = λ h m k bs e. absurd (none-some _ e);
}
falls (b ∷ t) =
    let f = falls t in
    record {
      outside = λ bs e. outside_step b t bs f.outside f.slash e;
      slash = λ bs e. slash_step b t bs f.outside f.digits e;
      digits = λ bs e. first_step b t bs (hex_digit b) refl (f.digit b) e;
      digit = λ h m k bs e. second_step h m b t bs (hex_digit b) k refl f.outside e;
    }

pub read_by_pieces : ReadByPieces
read_by_pieces text bs = ((falls text).outside bs, λ s. ap unescaped (sym s.spelt) ∙ all_read s.pieces bs s.bytes)

-- one more byte, written so that no line feed stands there
one_more : (b : ℕ) (bs t : List ℕ) → unescaped t ≡ Some bs → behind 10 t ≡ None → (text : List ℕ) × (unescaped text ≡ Some (b ∷ bs)) × (behind 10 text ≡ None)
one_more b bs t r n =
    let read : led (b ∷ []) (unescaped t) ≡ Some (b ∷ bs) = ap (led (b ∷ [])) r in
    ⊎_elim (λ e. (92 ∷ 92 ∷ t, ap (λ v. led (v ∷ []) (unescaped t)) (sym e) ∙ read, n))
    (λ other. ⊎_elim (λ e. (92 ∷ 110 ∷ t, ap (λ v. led (v ∷ []) (unescaped t)) (sym e) ∙ read, n))
    (λ plain. (b ∷ t, piece_read (itself b) b t (cond-false _ _ _ (ne_eqb b 92 other)) ∙ read, cond-false _ _ _ (ne_eqb b 10 plain) ∙ n))
    (cases_eq b 10)) (cases_eq b 92)

pub any_bytes : AnyBytes
any_bytes [] = ([], refl, refl)
any_bytes (b ∷ bs) = let t = any_bytes bs in one_more b bs t.0 t.1 t.2
