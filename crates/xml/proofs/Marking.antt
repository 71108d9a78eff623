-- A set of bytes as bits: nothing is in it at first, and a byte that is put in is in it from then on. Assumes nothing.
use Rattle.std.proofs.Common.{◌≡◌, ℕ, ◌+◌, ◌*◌, ◌<◌, ◌≤◌, ◌^◌, ◌%◌, Bool, true, false, cond, zero, suc, ◌&&◌, ◌||◌, ◌==◌, not, nat_eq, nat_lt, bit_and, bit_or, List, [], ◌∷◌, ◌++◌, length, length-append, get_or, take, codes, w64, sym, refl, ap, ◌∙◌, subst, arith}
use Rattle.std.proofs.Math.Bool.{and-false}
use Rattle.std.proofs.lemmas.Bool.{both_ways, eqb-true, eqb-false, ne_eqb, lt-ltb, ltb-true}
use Rattle.std.proofs.lemmas.List.Folds.{list_all_at}
use Rattle.std.proofs.lemmas.Nat.Bits.{bit_at-zero, bit_at_set_same, bit_at_set_other, and_pow}
use Rattle.std.proofs.lemmas.Nat.{one_shl, pow_pos, and_mask}
use Rattle.std.specs.Int.{bit_at}
use Rattle.xml.specs.Escaping.{among, nine, replacement, escaped}
use Rattle.xml.specs.Marked.{marked}
use Rattle.xml.proofs.Nine.{nines}

pub unmarked : (b : ℕ) → marked 0 b ≡ false
unmarked b = ap (λ n. nat_lt b 64 && n == 1) (bit_at-zero b) ∙ and-false (nat_lt b 64)

pub mark : (bits k : ℕ) → k < 64 → (b : ℕ) → marked (bit_or bits (1 * 2 ^ k % 2 ^ 64)) b ≡ (b == k || marked bits b)
mark bits k h b = one (b == k) refl
  where
    new : ℕ
    new = bit_or bits (1 * 2 ^ k % 2 ^ 64)

    one : (t : Bool) → (b == k) ≡ t → marked new b ≡ (t || marked bits b)
    one true e = subst (λ y. marked new y ≡ true) (sym (eqb-true b k e)) (rw (lt-ltb k 64 h, bit_at_set_same w64 bits k h) refl)
    one false e = ap (λ n. nat_lt b 64 && n == 1) (bit_at_set_other w64 bits k h b (eqb-false b k e))

-- one more byte of a list
pub among_more : (b : ℕ) (xs : List ℕ) (i : ℕ) → i < length xs → among b (take (suc i) xs) ≡ (among b (take i xs) || b == get_or xs i 0)
among_more b [] i h = absurd (omega arith)
among_more b (x ∷ xs) zero h = one (b == x)
  where
    one : (t : Bool) → (t || false) ≡ t
    one true = refl
    one false = refl
among_more b (x ∷ xs) (suc i) h = one (b == x) (among_more b xs i (omega arith))
  where
    one : (t : Bool) → among b (take (suc i) xs) ≡ (among b (take i xs) || b == get_or xs i 0) → (t || among b (take (suc i) xs)) ≡ ((t || among b (take i xs)) || b == get_or xs i 0)
    one true e = refl
    one false e = e

-- a rule chooses no other than the nine
pub only_nine : (chosen : ℕ → Bool) → ((b : ℕ) → chosen b ≡ true → nine b ≡ true) → (b : ℕ) → (nine b && chosen b) ≡ chosen b
only_nine chosen within b = one (chosen b) refl
  where
    one : (t : Bool) → chosen b ≡ t → (nine b && t) ≡ t
    one true e = ap (λ x. x && true) (within b e)
    one false e = and-false (nine b)

join : (a e c t : Bool) → (e ≡ true → c ≡ t) → (cond t e false || (a && c)) ≡ ((a || e) && c)
join true true true true h = refl
join true true false false h = refl
join true true true false h = absurd (both_ways true (h refl) refl)
join true true false true h = absurd (both_ways false refl (h refl))
join true false true true h = refl
join true false true false h = refl
join true false false true h = refl
join true false false false h = refl
join false true true true h = refl
join false true false false h = refl
join false true true false h = absurd (both_ways true (h refl) refl)
join false true false true h = absurd (both_ways false refl (h refl))
join false false true true h = refl
join false false true false h = refl
join false false false true h = refl
join false false false false h = refl

-- the bytes so far, and one more that the rule was asked about
pub marked_more : (chosen : ℕ → Bool) (xs : List ℕ) (i bits : ℕ) → i < length xs → ((b : ℕ) → marked bits b ≡ (among b (take i xs) && chosen b)) → (t : Bool) → t ≡ chosen (get_or xs i 0) → (bits' : ℕ) → ((b : ℕ) → marked bits' b ≡ (cond t (b == get_or xs i 0) false || marked bits b)) → (b : ℕ) → marked bits' b ≡ (among b (take (i + 1) xs) && chosen b)
marked_more chosen xs i bits h before t asked bits' put b =
    let x = get_or xs i 0 in
    let next : i + 1 ≡ suc i = omega arith in
    let same : b == x ≡ true → chosen b ≡ t = λ e. ap chosen (eqb-true b x e) ∙ sym asked in
    put b ∙ ap (λ m. cond t (b == x) false || m) (before b) ∙ join (among b (take i xs)) (b == x) (chosen b) t same ∙ ap (λ m. m && chosen b) (sym (ap (λ n. among b (take n xs)) next ∙ among_more b xs i h))

-- the nine are below 64
pub below_64 : (i : ℕ) → i < 9 → get_or nines i 0 < 64
below_64 i h = one (nat_lt x 64) refl
  where
    x : ℕ
    x = get_or nines i 0

    one : (t : Bool) → nat_lt x 64 ≡ t → x < 64
    one true e = ltb-true x 64 e
    one false e = absurd (both_ways true (list_all_at (λ b. nat_lt b 64) nines i 0 h e) refl)

-- six bytes stand for one at most
short : (b : ℕ) → length (replacement b) ≤ 6
short b = one (b == 60) (codes "&lt;") _ (omega arith) (one (b == 62) (codes "&gt;") _ (omega arith) (one (b == 39) (codes "&apos;") _ (omega arith) (one (b == 38) (codes "&amp;") _ (omega arith) (one (b == 34) (codes "&quot;") _ (omega arith) (one (b == 9) (codes "&#9;") _ (omega arith) (one (b == 10) (codes "&#10;") _ (omega arith) (one (b == 13) (codes "&#13;") _ (omega arith) (omega arith))))))))
  where
    one : (t : Bool) (xs ys : List ℕ) → length xs ≤ 6 → length ys ≤ 6 → length (cond t xs ys) ≤ 6
    one true xs ys h k = h
    one false xs ys h k = k

pub at_most : (p : ℕ → Bool) (bs : List ℕ) → length (escaped p bs) ≤ length bs * 6
at_most p [] = omega arith
at_most p (b ∷ bs) = one (p b) (at_most p bs)
  where
    one : (t : Bool) → length (escaped p bs) ≤ length bs * 6 → length (cond t (replacement b) (b ∷ []) ++ escaped p bs) ≤ length (b ∷ bs) * 6
    one true h = omega (arith, h, short b, length-append (replacement b) (escaped p bs))
    one false h = omega (arith, h)

-- the test of one bit
pub bit_tests : (bits k : ℕ) → k < 64 → not (nat_eq (bit_and bits (1 * 2 ^ k % 2 ^ 64)) 0) ≡ marked bits k
bit_tests bits k h = ap (λ m. not (nat_eq m 0)) masked ∙ one (bit_at bits k) (omega arith) ∙ ap (λ t. t && bit_at bits k == 1) (sym (lt-ltb k 64 h))
  where
    masked : bit_and bits (1 * 2 ^ k % 2 ^ 64) ≡ bit_at bits k * 2 ^ k
    masked = ap (bit_and bits) (one_shl k 64 h) ∙ and_pow bits k

    one : (v : ℕ) → v < 2 → not (nat_eq (v * 2 ^ k) 0) ≡ (v == 1)
    one zero l = ap (λ m. not (nat_eq m 0)) none
      where
        none : 0 * 2 ^ k ≡ 0
        none = omega arith
    one (suc zero) l = ap not (ne_eqb (1 * 2 ^ k) 0 (λ e. absurd (omega (arith, e, pow_pos k))))
    one (suc (suc v)) l = absurd (omega arith)

-- the two highest bits of a byte aside, no byte is missed
pub may_be : (bits b : ℕ) → not (nat_eq (bit_and bits (1 * 2 ^ bit_and b 63 % 2 ^ 64)) 0) ≡ false → marked bits b ≡ false
may_be bits b none = one (nat_lt b 64) refl
  where
    tested : marked bits (b % 64) ≡ false
    tested = sym (bit_tests bits (b % 64) (omega arith)) ∙ ap (λ k. not (nat_eq (bit_and bits (1 * 2 ^ k % 2 ^ 64)) 0)) (sym (and_mask b 6)) ∙ none

    one : (t : Bool) → nat_lt b 64 ≡ t → marked bits b ≡ false
    one true e = let low : b % 64 ≡ b = omega (arith, ltb-true b 64 e) in ap (marked bits) (sym low) ∙ tested
    one false e = ap (λ t. t && bit_at bits b == 1) e
