-- The library's answers on bytes are those of the model's tests. Assumes nothing.
use Rattle.std.proofs.Common.{◌≡◌, ℕ, zero, suc, ◌<◌, ◌≤◌, true, false, List, length, take, Ok, Err, Result, MatchResult, IsUtf8, sym, refl, ap, ◌∙◌, subst, ⊎_elim, arith}
use Rattle.std.proofs.lemmas.Bool.{cases_Bool, cases_eq, cases_lt, cond-true, cond-false}
use Rattle.refusal.specs.declared.Refusal.{Refusal}
use Rattle.refusal.specs.declared.Refusal.TheVariants.{Order, Bytes as BytesAt, Shape, RunOn, Name as NameAt, Stack, Depth, Stage, Sink, Style}
use Rattle.refusal.specs.Refusals.{number, offset}
use Rattle.std.specs.Str.{IsValidUpTo}
use Rattle.model.specs.Strings.{utf8, whole, whole_upto}
use Rattle.model.proofs.Spelling.{utf8_true, utf8_from}
use Rattle.engine.specs.Checks.{CheckedBytes}

pub utf8_false : (bs : List ℕ) → (IsUtf8 bs → ⊥) → utf8 bs ≡ false
utf8_false bs h = ⊎_elim (λ t. absurd (h (utf8_true bs t))) (λ f. f) (cases_Bool (utf8 bs))

whole_upto_is : (bs : List ℕ) (k n : ℕ) → IsValidUpTo bs k → k ≤ n → whole_upto n bs ≡ k
whole_upto_is bs k zero h l = omega (arith, l)
whole_upto_is bs k (suc n) h l =
    let here : k ≡ suc n → whole_upto (suc n) bs ≡ k =
    λ e. cond-true (utf8 (take (suc n) bs)) (suc n) (whole_upto n bs) (subst (λ i. utf8 (take i bs) ≡ true) e (utf8_from (take k bs) h.front)) ∙ sym e in
    let below : (k ≡ suc n → ⊥) → k < suc n = λ ne. ⊎_elim (λ m. m) (λ m. absurd (ne (omega (arith, l, m)))) (cases_lt k (suc n)) in
    let later : (k ≡ suc n → ⊥) → whole_upto (suc n) bs ≡ k =
    λ ne.
    cond-false (utf8 (take (suc n) bs)) (suc n) (whole_upto n bs) (utf8_false (take (suc n) bs) (h.longest (suc n) (below ne)))
    ∙ whole_upto_is bs k n h (omega (arith, below ne)) in
    ⊎_elim here later (cases_eq k (suc n))

pub whole_is : (bs : List ℕ) (k : ℕ) → IsValidUpTo bs k → whole bs ≡ k
whole_is bs k h = whole_upto_is bs k (length bs) h (omega (arith, h.short))

pub bytes_refusal : (e : Refusal) → number e ≡ 2 → e ≡ BytesAt (offset e)
bytes_refusal Order h = absurd (omega (arith, h))
bytes_refusal (BytesAt k) h = refl
bytes_refusal Shape h = absurd (omega (arith, h))
bytes_refusal RunOn h = absurd (omega (arith, h))
bytes_refusal (NameAt k) h = absurd (omega (arith, h))
bytes_refusal Stack h = absurd (omega (arith, h))
bytes_refusal Depth h = absurd (omega (arith, h))
bytes_refusal Stage h = absurd (omega (arith, h))
bytes_refusal Sink h = absurd (omega (arith, h))
bytes_refusal Style h = absurd (omega (arith, h))

-- what the library answers on a call's bytes
pub checked_bytes : {A : Type 0} (P : A → Type 0) (r : Result A Refusal) (bs : List ℕ) → MatchResult r (λ s. P s × IsUtf8 bs) (λ e. (number e ≡ 2) × (IsUtf8 bs → ⊥) × IsValidUpTo bs (offset e)) → CheckedBytes r bs
checked_bytes P (Ok s) bs h = utf8_from bs h.1
checked_bytes P (Err e) bs h = (utf8_false bs h.1, bytes_refusal e h.0 ∙ ap (λ k. BytesAt k) (sym (whole_is bs (offset e) h.2)))
