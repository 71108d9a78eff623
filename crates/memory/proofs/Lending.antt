-- A store into what may be used of a slice is one into the slice, and leaves what lies past it. Assumes nothing.
use Rattle.std.proofs.Common.{◌≡◌, ℕ, ◌+◌, ◌-◌, ◌<◌, ◌≤◌, List, length, take, drop, set, ap, ◌∙◌, arith, rules}
use Rattle.std.proofs.lemmas.List.{same_lists, places, length-take, get_or-set_same}
use Rattle.std.proofs.lemmas.Bool.{cases_eq}
use Rattle.memory.specs.Laid.{laid}
use Rattle.memory.specs.Opened.{shifted, opened}

-- how much that is
pub fits_both : {A : Type 0} (n k : ℕ) (xs : List A) → k ≤ length (take n xs) → (k ≤ n) × (k ≤ length xs)
fits_both n k xs h = (omega (arith, h, length-take n xs), omega (arith, h, length-take n xs))

module _ {A : Type 0} (n : ℕ) (xs : List A) (k : ℕ) (y : A) (h : k < length (take n xs)) where
  pub take_stored : take n (set xs k y) ≡ set (take n xs) k y
  take_stored = let f = fits_both n (k + 1) xs (omega (arith, h)) in same_lists _ _ (search (rules, places)) (λ i d l. grind (arith, places, get_or-set_same, cases_eq i k))

  pub drop_stored : drop n (set xs k y) ≡ drop n xs
  drop_stored = let f = fits_both n (k + 1) xs (omega (arith, h)) in same_lists _ _ (search (rules, places)) (λ i d l. grind (arith, places))

module _ (n : ℕ) (xs s : List ℕ) (at : ℕ) (h : at + length s ≤ length (take n xs)) where
  pub take_laid : take n (laid xs at s) ≡ laid (take n xs) at s
  take_laid = let f = fits_both n (at + length s) xs h in same_lists _ _ (search (rules, places)) (λ i d l. grind (arith, places))

  pub drop_laid : drop n (laid xs at s) ≡ drop n xs
  drop_laid = let f = fits_both n (at + length s) xs h in same_lists _ _ (search (rules, places)) (λ i d l. grind (arith, places))

module _ (n : ℕ) (xs s : List ℕ) (at used : ℕ) (low : at ≤ used) (h : used + length s ≤ length (take n xs)) where
  pub take_opened : take n (opened xs at used s) ≡ opened (take n xs) at used s
  take_opened = let f = fits_both n (used + length s) xs h in same_lists _ _ (search (rules, places)) (λ i d l. grind (arith, places))

  pub drop_opened : drop n (opened xs at used s) ≡ drop n xs
  drop_opened = let f = fits_both n (used + length s) xs h in same_lists _ _ (search (rules, places)) (λ i d l. grind (arith, places))

-- a part of what may be used is one of the slice
pub part_usable : {A : Type 0} (n from end : ℕ) (xs : List A) → from ≤ end → end ≤ length (take n xs) → take (end - from) (drop from xs) ≡ take (end - from) (drop from (take n xs))
part_usable n from end xs low h = let f = fits_both n end xs h in same_lists _ _ (search (rules, places)) (λ i d l. grind (arith, places))

-- a gap is opened in the slice and filled, as `insert` does it
module _ (n : ℕ) (xs ys zs s : List ℕ) (at used by : ℕ) (low : at ≤ used) (h : used + length s ≤ length (take n xs)) (size : by ≡ length s) (gap : ys ≡ shifted xs at used by) (fill : zs ≡ laid ys at s) where
  filled : zs ≡ opened xs at used s
  filled =
      let f = fits_both n (used + length s) xs h in
      let one : laid (shifted xs at used (length s)) at s ≡ opened xs at used s = same_lists _ _ (search (rules, places)) (λ i d l. grind (arith, places)) in
      fill ∙ ap (λ l. laid l at s) (gap ∙ ap (shifted xs at used) size) ∙ one

  pub take_filled : take n zs ≡ opened (take n xs) at used s
  take_filled = ap (take n) filled ∙ take_opened n xs s at used low h

  pub drop_filled : drop n zs ≡ drop n xs
  drop_filled = ap (drop n) filled ∙ drop_opened n xs s at used low h
