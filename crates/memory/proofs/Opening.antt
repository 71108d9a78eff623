-- A gap, opened and filled. Assumes nothing.
use Rattle.std.proofs.Common.{◌≡◌, ℕ, ◌+◌, ◌-◌, ◌≤◌, List, ◌++◌, length, take, drop, arith, rules}
use Rattle.std.proofs.lemmas.List.{same_lists, places}
use Rattle.memory.specs.Opened.{opened}

pub length-opened : (d s : List ℕ) (at used : ℕ) → at ≤ used → used + length s ≤ length d → length (opened d at used s) ≡ length d
length-opened d s at used a b = search (rules, places)

-- up to the new end it reads as what stood before the gap, what was put in, and what stood behind
pub take-opened : (d s : List ℕ) (at used : ℕ) → at ≤ used → used + length s ≤ length d → take (used + length s) (opened d at used s) ≡ take at d ++ (s ++ take (used - at) (drop at d))
take-opened d s at used a b = same_lists _ _ (search (rules, places)) (λ k e l. grind (arith, places))

pub drop-opened : (d s : List ℕ) (at used : ℕ) → at ≤ used → used + length s ≤ length d → drop (used + length s) (opened d at used s) ≡ drop (used + length s) d
drop-opened d s at used a b = same_lists _ _ (search (rules, places)) (λ k e l. grind (arith, places))
