-- One line of the built-in record after another: taken into the batch, and shown with its answer.
use Rattle.std.proofs.Common.{◌≡◌, ℕ, ◌+◌, ◌<◌, ◌≤◌, ◌⊎◌, List, [], ◌∷◌, ◌++◌, map, length, get_or, drop, Option, Ok, Err, Result, MatchResult, IsErrAnd, IfOk, OnOk, Bor, refl, sym, ap, ◌∙◌, subst, inl, inr, append_assoc, arith}
use Rattle.std.proofs.lemmas.List.{drop_more, drop_all, get_or-map, length-map}
use Rattle.std.specs.Io.KnownBytes.{Appends}
use Rattle.refusal.specs.declared.Refusal.{Refusal}
use Rattle.feed.specs.declared.batch.Batch.{Batch}
use Rattle.runner.specs.Printing.{ended}
use Rattle.runner.proofs.Lines.{appends_then}
use Rattle.sheet_feed.specs.FirstTask.{TakesOne, Takes, step_told, steps_told}

abbrev pub texts : List (Bor (List ℕ)) → List (List ℕ)
texts lines = map (λ line. line.now) lines

-- the next line is taken before those behind it
pub takes_more : (lines : List (Bor (List ℕ))) (i k : ℕ) (d : Bor (List ℕ)) (b m c : Batch) → i < length lines → TakesOne k (get_or lines i d).now b m → Takes (k + 1) (drop (i + 1) (texts lines)) m c → Takes k (drop i (texts lines)) b c
takes_more lines i k d b m c low one more =
    let text = (get_or lines i d).now in
    let next : drop i (texts lines) ≡ text ∷ drop (i + 1) (texts lines) = drop_more (texts lines) i text (rw length-map low) ∙ ap (λ x. x ∷ drop (i + 1) (texts lines)) (get_or-map (λ x. x.now) lines i d text low) in
    subst (λ z. Takes k z b c) (sym next) (m, one, more)

-- no line is left
pub takes_none : (lines : List (Bor (List ℕ))) (i k : ℕ) (b : Batch) → length lines ≤ i → Takes k (drop i (texts lines)) b b
takes_none lines i k b end = subst (λ z. Takes k z b b) (sym (drop_all i (texts lines) (rw length-map end))) refl

-- what holds of the value is kept where an error is mapped
pub from_map : {A E F : Type 0} (P : A → Type 0) (r : Result A E) (b : A) (Q : E → F → Type 0) → (s : Result A F) → s ≡ Ok b → MatchResult r (λ x. s ≡ Ok x) (λ e. IsErrAnd s (Q e)) → IfOk r P → P b
from_map P (Ok x) b Q s is m h = let same : b ≡ x = cc (is, m) in subst P (sym same) h
from_map P (Err e) b Q s is m h = absurd (subst (λ z. IsErrAnd z (Q e)) is m)

-- more is printed behind what was
pub ok_then : {E : Type 0} (a b c : Option (List ℕ)) (r : Result (Unit {0}) E) (xs ys : List ℕ) → Appends a b xs → OnOk r (Appends b c ys) → OnOk r (Appends a c (xs ++ ys))
ok_then a b c (Ok x) xs ys p q = appends_then a b c xs ys p q
ok_then a b c (Err e) xs ys p q = tt

-- the next call is shown
pub steps_next : (x all : List ℕ) (xs cs : List (Bor (List ℕ))) (ys rs : List (Result (Unit {0}) Refusal)) (c : Bor (List ℕ)) (r : Result (Unit {0}) Refusal) → xs ≡ c ∷ cs → ys ≡ r ∷ rs → x ++ steps_told (texts xs) ys ≡ all → (x ++ ended (step_told c.now r)) ++ steps_told (texts cs) rs ≡ all
steps_next x all xs cs ys rs c r p q h =
    append_assoc x (ended (step_told c.now r)) (steps_told (texts cs) rs) ∙ sym (ap (λ z. x ++ steps_told (texts z) ys) p ∙ ap (λ z. x ++ steps_told (texts (c ∷ cs)) z) q) ∙ h

-- no call is left, or no answer
pub steps_done : (xs : List (Bor (List ℕ))) (ys : List (Result (Unit {0}) Refusal)) → (length xs ≡ 0) ⊎ (length ys ≡ 0) → steps_told (texts xs) ys ≡ []
steps_done [] ys e = refl
steps_done (x ∷ xs) [] e = refl
steps_done (x ∷ xs) (y ∷ ys) (inl e) = absurd (omega (arith, e))
steps_done (x ∷ xs) (y ∷ ys) (inr e) = absurd (omega (arith, e))
