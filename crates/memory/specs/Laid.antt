-- What a store of bytes leaves. Assumes nothing.
use Rattle.std.specs.Prelude.{ℕ, ◌+◌, List, [], ◌++◌, length, take, drop, Some, None, Option}

-- xs with src in place of what stood there from `at` on; everything before and after stays
abbrev pub laid : List ℕ → ℕ → List ℕ → List ℕ
laid xs at src = take at xs ++ (src ++ drop (at + length src) xs)

-- the bytes of what may be there
abbrev pub some_or_none : {A : Type 0} → (A → List ℕ) → Option A → List ℕ
some_or_none f (Some x) = f x
some_or_none f None = []
