-- What a value leaves where it was escaped. Assumes nothing.
use Rattle.std.proofs.Common.{◌≡◌, ℕ, ◌+◌, ◌-◌, ◌≤◌, Bool, List, length, take, drop, sym, ap, ◌∙◌, subst, arith, rules}
use Rattle.std.proofs.lemmas.List.{same_lists, places}
use Rattle.memory.specs.Laid.{laid}
use Rattle.xml.specs.declared.escape.Use.{Use}
use Rattle.xml.specs.Escaping.{escaped, Lawful}
use Rattle.xml.specs.Back.{ReadsBack, Writes}
use Rattle.xml.proofs.Escapes.{reads_back}

-- what was laid down is found where it was laid
found : (d s : List ℕ) (at : ℕ) → at + length s ≤ length d → take (length s) (drop at (laid d at s)) ≡ s
found d s at h = same_lists _ _ (search (rules, places)) (λ k e l. grind (arith, places))

pub writes : {u : Use} {chosen : ℕ → Bool} → Lawful u chosen → (value d : List ℕ) (at end : ℕ) (out : List ℕ) → at + length (escaped chosen value) ≤ length d → end ≡ at + length (escaped chosen value) → out ≡ laid d at (escaped chosen value) → Writes u chosen value at end d out
writes {u} {chosen} law value d at end out fits p q =
    let s = escaped chosen value in
    let long : end - at ≡ length s = omega arith in
    let there : take (end - at) (drop at out) ≡ s = ap (λ n. take n (drop at out)) long ∙ ap (λ l. take (length s) (drop at l)) q ∙ found d s at fits in
    record { ends = p; bytes = q; says = subst (λ raw. ReadsBack u raw value) (sym there) (reads_back u law value) }
