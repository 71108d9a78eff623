-- The longest beginning of whole characters, found by trying every length from the end.
use Rattle.std.proofs.Common.{◌≡◌, ℕ, zero, suc, ◌<◌, ◌≤◌, Bool, true, false, cond, length, take, IsUtf8, refl, subst, ⊎_elim, arith}
use Rattle.std.proofs.lemmas.List.{take_all}
use Rattle.std.proofs.lemmas.Bool.{both_ways, cases_lt, cases_eq}
use Rattle.std.proofs.lemmas.Str.{IsUtf8-nil}
use Rattle.std.specs.Str.{IsValidUpTo}
use Rattle.reader.specs.Trees.{Bytes}
use Rattle.model.specs.Strings.{utf8, whole_upto, whole}
use Rattle.model.specs.Laws.{StringsToldApart}
use Rattle.model.proofs.Spelling.{utf8_true, utf8_from}

-- n is the greatest length up to k at which the beginning is well-formed
record Greatest (bs : Bytes) (k n : ℕ) : Type 0 where
  upto : n ≤ k
  good : IsUtf8 (take n bs)
  none_longer : (m : ℕ) → n < m → m ≤ k → IsUtf8 (take m bs) → ⊥

greatest : (bs : Bytes) (k : ℕ) → Greatest bs k (whole_upto k bs)
greatest bs zero = record { upto = omega arith; good = IsUtf8-nil; none_longer = λ m l h u. omega arith }
greatest bs (suc k) = go (greatest bs k) (utf8 (take (suc k) bs)) refl
  where
    go : Greatest bs k (whole_upto k bs) → (t : Bool) → utf8 (take (suc k) bs) ≡ t → Greatest bs (suc k) (cond t (suc k) (whole_upto k bs))
    go g true e = record { upto = omega arith; good = utf8_true (take (suc k) bs) e; none_longer = λ m l h u. omega arith }
    go g false e = record { upto = omega (arith, g.upto); good = g.good; none_longer = longer }
      where
        longer : (m : ℕ) → whole_upto k bs < m → m ≤ suc k → IsUtf8 (take m bs) → ⊥
        longer m l h u =
            ⊎_elim (λ q. both_ways (utf8 (take (suc k) bs)) e (utf8_from (take (suc k) bs) (subst (λ (x : ℕ). IsUtf8 (take x bs)) q u))) (λ q. let p : m ≤ k = omega arith in g.none_longer m l p u) (cases_eq m (suc k))

pub strings_told_apart : StringsToldApart
strings_told_apart bs = ((utf8_true bs, utf8_from bs), longest)
  where
    no_whole : utf8 bs ≡ false → (m : ℕ) → length bs ≤ m → IsUtf8 (take m bs) → ⊥
    no_whole e m h u = both_ways (utf8 bs) e (utf8_from bs (subst IsUtf8 (take_all m bs h) u))

    longest : utf8 bs ≡ false → IsValidUpTo bs (whole bs)
    longest e =
        let g = greatest bs (length bs) in
        record { short = ⊎_elim (λ l. l) (λ l. absurd (no_whole e (whole bs) l g.good)) (cases_lt (whole bs) (length bs)); front = g.good; longest = λ m l u. ⊎_elim (λ q. let p : m ≤ length bs = omega arith in g.none_longer m l p u) (λ q. no_whole e m q u) (cases_lt m (length bs)) }
