-- Where a text is cut: at a byte that is not in what stands before it.
use Rattle.std.proofs.Common.{◌≡◌, ℕ, ◌+◌, ◌<◌, ◌≤◌, true, false, cond, eqb, List, [], ◌∷◌, ◌++◌, length, get_or, take, drop, suc, Some, None, Option, unwrap_or, sym, refl, ap, ◌∙◌, append-nil, arith, eq-eqb, eqb-true}
use borrow.Author.Tests.{eqb-false}
use Rattle.std.proofs.lemmas.List.{take-append-drop, drop_more}
use Rattle.std.proofs.lemmas.Bool.Decides.{nat_tests}
use Rattle.std.proofs.lemmas.Grind.{common_steps}
use Rattle.script.specs.Cuts.{before, behind, Lacks, Parts, CutAtTheFirst}

-- what stands behind a byte is no longer than the whole
behind_within : (b : ℕ) (bs : List ℕ) → length (unwrap_or (behind b bs) []) ≤ length bs
behind_within b [] = omega arith
behind_within b (x ∷ xs) = grind (arith, nat_tests, behind_within b xs)

pub later_shorter : (b : ℕ) (bs : List ℕ) → 0 < length bs → length (unwrap_or (behind b bs) []) < length bs
later_shorter b [] h = absurd (omega arith)
later_shorter b (x ∷ xs) h = grind (arith, nat_tests, behind_within b xs)

parts : (b : ℕ) (text : List ℕ) → Parts b text (before b text) (behind b text)
parts b [] = (refl, tt)
parts b (x ∷ xs) = grind (arith, nat_tests, parts b xs)

-- where the front has no b, the cut lies behind it
past_front : (b : ℕ) (front rest : List ℕ) → Lacks b front → (before b (front ++ rest) ≡ front ++ before b rest) × (behind b (front ++ rest) ≡ behind b rest)
past_front b [] rest l = (refl, refl)
past_front b (x ∷ xs) rest l = grind (arith, nat_tests, past_front b xs rest l.1)

only_parts : (b : ℕ) (text front : List ℕ) (rest : Option (List ℕ)) → Parts b text front rest → (before b text ≡ front) × (behind b text ≡ rest)
only_parts b text front None p =
    let whole = past_front b front [] p.1 in
    let is : text ≡ front ++ [] = p.0 ∙ sym (append-nil front) in
    (ap (before b) is ∙ whole.0 ∙ append-nil front, ap (behind b) is ∙ whole.1)
only_parts b text front (Some rest) p =
    let found = past_front b front (b ∷ rest) p.1 in
    let same = eq-eqb b b refl in (
      ap (before b) p.0 ∙ found.0 ∙ ap (λ t. front ++ cond t [] (b ∷ before b rest)) same ∙ append-nil front,
      ap (behind b) p.0 ∙ found.1 ∙ ap (λ t. cond t (Some rest) (behind b rest)) same,
    )

pub cut_at_the_first : CutAtTheFirst
cut_at_the_first b text = (parts b text, only_parts b text)

lacks : (b : ℕ) (xs : List ℕ) → ((k : ℕ) → k < length xs → eqb (get_or xs k 0) b ≡ false) → Lacks b xs
lacks b [] none = tt
lacks b (x ∷ xs) none = (eqb-false x b (none 0 (omega arith)), lacks b xs (λ k l. none (suc k) (omega arith)))

-- b stands nowhere
pub cut_nowhere : (b : ℕ) (text : List ℕ) → ((k : ℕ) → k < length text → eqb (get_or text k 0) b ≡ false) → (before b text ≡ text) × (behind b text ≡ None)
cut_nowhere b text none = only_parts b text text None (refl, lacks b text none)

-- b stands at i, and nowhere before
pub cut_here : (b : ℕ) (text : List ℕ) (i : ℕ) → i < length text → ((k : ℕ) → k < i → eqb (get_or text k 0) b ≡ false) → eqb (get_or text i 0) b ≡ true → (before b text ≡ take i text) × (behind b text ≡ Some (drop (i + 1) text))
cut_here b text i h none here =
    let front = take i text in
    let rest = drop (i + 1) text in
    let whole : text ≡ front ++ b ∷ rest = sym (take-append-drop i text) ∙ ap (λ l. front ++ l) (drop_more text i 0 h ∙ ap (λ x. x ∷ rest) (eqb-true _ b here)) in
    only_parts b text front (Some rest) (whole, lacks b front (λ k l. grind (arith, common_steps, none k)))
