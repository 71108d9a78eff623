-- Bytes that are printed one behind the other. Assumes nothing.
use Rattle.std.proofs.Common.{◌≡◌, ℕ, ◌+◌, ◌<◌, List, [], ◌∷◌, ◌++◌, length, get_or, take, Some, None, Ok, Err, Option, Result, sym, refl, ap, ◌∙◌, ◌⊎◌, inl, inr, append_assoc, arith}
use Rattle.std.proofs.lemmas.List.{append-nil, take_more}
use Rattle.std.specs.Io.KnownBytes.{Appends}
use Rattle.refusal.specs.declared.Refusal.{Refusal}
use Rattle.feed.specs.declared.call_line.CallLine.{CallLine}
use Rattle.feed.specs.Telling.{traced, told}
use Rattle.runner.specs.Printing.{ended, answers_told, refused_told, told_of, ToldInOrder, AnsweredInOrder}

pub appends_none : (a : Option (List ℕ)) → Appends a a []
appends_none None = tt
appends_none (Some xs) = sym (append-nil xs)

pub appends_then : (a b c : Option (List ℕ)) (xs ys : List ℕ) → Appends a b xs → Appends b c ys → Appends a c (xs ++ ys)
appends_then None b c xs ys p q = tt
appends_then (Some x) None c xs ys p q = absurd p
appends_then (Some x) (Some y) None xs ys p q = absurd q
appends_then (Some x) (Some y) (Some z) xs ys p q = q ∙ ap (λ k. k ++ ys) p ∙ append_assoc x xs ys

answers_last : (rs : List (Result (Unit {0}) Refusal)) (r : Result (Unit {0}) Refusal) → answers_told (rs ++ (r ∷ [])) ≡ answers_told rs ++ ended (traced r)
answers_last [] r = append-nil (ended (traced r))
answers_last (q ∷ rs) r = ap (λ k. ended (traced q) ++ k) (answers_last rs r) ∙ sym (append_assoc (ended (traced q)) (answers_told rs) (ended (traced r)))

-- one answer more
pub answers_more : (rs : List (Result (Unit {0}) Refusal)) (i : ℕ) (r : Result (Unit {0}) Refusal) → i < length rs → r ≡ get_or rs i r → answers_told (take (i + 1) rs) ≡ answers_told (take i rs) ++ ended (traced r)
answers_more rs i r low is = ap answers_told (take_more rs i r low ∙ ap (λ k. take i rs ++ (k ∷ [])) (sym is)) ∙ answers_last (take i rs) r

-- the next call is refused, and told
pub refused_next : (x t : List ℕ) (xs cs : List CallLine) (ys rs : List (Result (Unit {0}) Refusal)) (c : CallLine) (r : Result (Unit {0}) Refusal) (e : Refusal) → xs ≡ c ∷ cs → ys ≡ r ∷ rs → r ≡ Err e → x ++ refused_told xs ys ≡ t → (x ++ ended (told c.number e)) ++ refused_told cs rs ≡ t
refused_next x t xs cs ys rs c r e p q s h =
    append_assoc x (ended (told c.number e)) (refused_told cs rs) ∙ sym (ap (λ z. x ++ refused_told z ys) p ∙ ap (λ z. x ++ refused_told (c ∷ cs) z) q ∙ ap (λ z. x ++ refused_told (c ∷ cs) (z ∷ rs)) s) ∙ h

-- the next call is accepted, and passed over
pub refused_passed : (x t : List ℕ) (xs cs : List CallLine) (ys rs : List (Result (Unit {0}) Refusal)) (c : CallLine) (r : Result (Unit {0}) Refusal) (k : Unit {0}) → xs ≡ c ∷ cs → ys ≡ r ∷ rs → r ≡ Ok k → x ++ refused_told xs ys ≡ t → x ++ refused_told cs rs ≡ t
refused_passed x t xs cs ys rs c r k p q s h =
    sym (ap (λ z. x ++ refused_told z ys) p ∙ ap (λ z. x ++ refused_told (c ∷ cs) z) q ∙ ap (λ z. x ++ refused_told (c ∷ cs) (z ∷ rs)) s) ∙ h

-- no call is left, or no answer
pub refused_done : (xs : List CallLine) (ys : List (Result (Unit {0}) Refusal)) → (length xs ≡ 0) ⊎ (length ys ≡ 0) → refused_told xs ys ≡ []
refused_done [] ys e = refl
refused_done (x ∷ xs) [] e = refl
refused_done (x ∷ xs) (y ∷ ys) (inl e) = absurd (omega (arith, e))
refused_done (x ∷ xs) (y ∷ ys) (inr e) = absurd (omega (arith, e))

pub told_in_order : ToldInOrder
told_in_order [] ds c [] ss (Ok x) h = refl
told_in_order [] ds c [] ss (Err e) h = refl
told_in_order [] ds c (q ∷ rs) ss r h = absurd (omega (arith, h))
told_in_order (b ∷ cs) ds c [] ss r h = absurd (omega (arith, h))
told_in_order (b ∷ cs) ds c (Ok x ∷ rs) ss r h = told_in_order cs ds c rs ss r (omega (arith, h))
told_in_order (b ∷ cs) ds c (Err e ∷ rs) ss r h =
    let line = ended (told b.number e) in
    ap (λ z. line ++ z) (told_in_order cs ds c rs ss r (omega (arith, h))) ∙ sym (append_assoc line (refused_told cs rs) (told_of c r ++ refused_told ds ss))

pub answered_in_order : AnsweredInOrder
answered_in_order [] ss r = refl
answered_in_order (q ∷ rs) ss r =
    let line = ended (traced q) in
    ap (λ z. line ++ z) (answered_in_order rs ss r) ∙ sym (append_assoc line (answers_told rs) (ended (traced r) ++ answers_told ss))
