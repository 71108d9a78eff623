-- What a gap in bytes leaves, and what stands there once it is filled. Assumes nothing.
use Rattle.std.specs.Prelude.{ℕ, ◌+◌, ◌-◌, List, ◌++◌, length, take, drop}

-- xs with the bytes from `from` up to `end` moved on by `by`; what stood in front of them stays, also in the gap
abbrev pub shifted : List ℕ → ℕ → ℕ → ℕ → List ℕ
shifted xs from end by = take (from + by) xs ++ (take (end - from) (drop from xs) ++ drop (end + by) xs)

-- xs with src put in at `at`; the bytes from there up to `used` come behind it, and everything past them stays
abbrev pub opened : List ℕ → ℕ → ℕ → List ℕ → List ℕ
opened xs at used src = take at xs ++ (src ++ (take (used - at) (drop at xs) ++ drop (used + length src) xs))
