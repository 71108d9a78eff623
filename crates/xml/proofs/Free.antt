-- Bytes that stand nowhere, above all in what an escaping rule writes. Assumes nothing.
use Rattle.std.proofs.Common.{◌≡◌, ℕ, Bool, true, false, cond, not, eqb, ◌≢◌, List, [], ◌∷◌, ◌++◌, sym, refl, subst, ⊎_elim}
use Rattle.std.specs.List.{list_all, list_any}
use Rattle.std.proofs.lemmas.Bool.{and_from, and_parts, and_left, and_right, both_ways, eqb-false, ne_eqb, not-true, not_from_false, or_cases, cases_Bool}
use Rattle.xml.specs.declared.escape.Use.{Use}
use Rattle.xml.specs.Escaping.{among, asked, replacement, must, piece, escaped, Lawful}
use Rattle.xml.specs.Reading.{begins}
use Rattle.xml.specs.Back.{free}
use Rattle.xml.specs.Levels.{of_all}
use Rattle.xml.proofs.Nine.{nines, inside}

pub free-++ : (bars cs bs : List ℕ) → free bars cs ≡ true → free bars bs ≡ true → free bars (cs ++ bs) ≡ true
free-++ bars [] bs h k = k
free-++ bars (c ∷ cs) bs h k = let p = and_parts (not (among c bars)) (free bars cs) h in and_from (not (among c bars)) (free bars (cs ++ bs)) p.0 (free-++ bars cs bs p.1 k)

-- what is not among some bytes is none of them
pub apart : (b x : ℕ) (xs : List ℕ) → among b xs ≡ false → among x xs ≡ true → eqb b x ≡ false
apart b x xs h k = ne_eqb b x (λ e. both_ways (among b xs) h (subst (λ z. among z xs ≡ true) (sym e) k))

-- where no byte is barred, nothing begins that has a barred byte in it
pub begins_not : (bars xs bs : List ℕ) → list_any (λ x. among x bars) xs ≡ true → free bars bs ≡ true → begins xs bs ≡ false
begins_not bars [] bs h k = absurd (both_ways false refl h)
begins_not bars (x ∷ xs) [] h k = refl
begins_not bars (x ∷ xs) (b ∷ bs) h k =
    let p = and_parts (not (among b bars)) (free bars bs) k in
    ⊎_elim
    (λ here. and_left (eqb x b) (begins xs bs) (ne_eqb x b (λ e. both_ways (among b bars) (not-true (among b bars) p.0) (subst (λ z. among z bars ≡ true) e here))))
    (λ later. and_right (eqb x b) (begins xs bs) (begins_not bars xs bs later p.1))
    (or_cases (among x bars) (list_any (λ y. among y bars) xs) h)

-- no replacement holds any of these bytes
abbrev pub spares : List ℕ → Bool
spares bars = list_all (λ b. free bars (replacement b)) nines

module _ {u : Use} {chosen : ℕ → Bool} (law : Lawful u chosen) where
  -- a byte that is left raw is none of those that the use asks for
  pub unasked : (b : ℕ) → chosen b ≡ false → asked u b ≡ false
  unasked b raw = ⊎_elim (λ h. absurd (both_ways (chosen b) raw (law.enough b h))) (λ h. h) (cases_Bool (asked u b))

  pub raw_is_none : (b : ℕ) (bars : List ℕ) → inside bars (must u) ≡ true → chosen b ≡ false → among b bars ≡ false
  raw_is_none b bars i raw = ⊎_elim (λ h. absurd (both_ways (asked u b) (unasked b raw) (of_all (λ x. among x (must u)) bars b i h))) (λ h. h) (cases_Bool (among b bars))

  pub raw_is_not : (b x : ℕ) → among x (must u) ≡ true → chosen b ≡ false → b ≢ x
  raw_is_not b x h raw = eqb-false b x (apart b x (must u) (unasked b raw) h)

  -- bytes that the use asks for, and that no replacement holds, stand nowhere in what is written
  pub free_escaped : (bars : List ℕ) → inside bars (must u) ≡ true → spares bars ≡ true → (value : List ℕ) → free bars (escaped chosen value) ≡ true
  free_escaped bars i spared [] = refl
  free_escaped bars i spared (b ∷ bs) = free-++ bars (piece chosen b) (escaped chosen bs) (one (chosen b) refl) (free_escaped bars i spared bs)
    where
      one : (t : Bool) → chosen b ≡ t → free bars (cond t (replacement b) (b ∷ [])) ≡ true
      one true e = of_all (λ b. free bars (replacement b)) nines b spared (law.within b e)
      one false e = and_from (not (among b bars)) true (not_from_false (among b bars) (raw_is_none b bars i e)) refl
