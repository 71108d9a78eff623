-- How stores of bytes follow one another, and what is read back. Assumes nothing.
use Rattle.std.proofs.Common.{◌≡◌, ℕ, ◌+◌, ◌≤◌, List, [], ◌++◌, length, take, drop, arith, rules}
use Rattle.std.proofs.lemmas.List.{same_lists, places}
use Rattle.memory.specs.Laid.{laid}

pub laid-laid : (d s t : List ℕ) (at : ℕ) → at + length s + length t ≤ length d → laid (laid d at s) (at + length s) t ≡ laid d at (s ++ t)
laid-laid d s t at h = same_lists _ _ (search (rules, places)) (λ k e l. grind (arith, places))

pub laid_none : (d : List ℕ) (at : ℕ) → d ≡ laid d at []
laid_none d at = same_lists _ _ (search (rules, places)) (λ k e l. grind (arith, places))

pub length-laid : (d s : List ℕ) (at : ℕ) → at + length s ≤ length d → length (laid d at s) ≡ length d
length-laid d s at h = search (rules, places)

-- up to its end, the store reads as what stood before it and then the store
pub take-laid : (d s : List ℕ) (at : ℕ) → at + length s ≤ length d → take (at + length s) (laid d at s) ≡ take at d ++ s
take-laid d s at h = same_lists _ _ (search (rules, places)) (λ k e l. grind (arith, places))

pub drop-laid : (d s : List ℕ) (at : ℕ) → at + length s ≤ length d → drop (at + length s) (laid d at s) ≡ drop (at + length s) d
drop-laid d s at h = same_lists _ _ (search (rules, places)) (λ k e l. grind (arith, places))
