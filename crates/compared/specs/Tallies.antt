-- How answers are counted, which wrong one is kept, and the words that tell of them. Assumes nothing.
use Rattle.std.specs.Prelude.{◌≡◌, ◌≢◌, ◌==◌, ℕ, ◌+◌, ◌-◌, ◌^◌, Bool, true, false, List, ◌++◌, Some, None, Option, min, codes, decimal}
use Rattle.std.specs.List.{starts_with}
use Rattle.compared.specs.declared.tally.Count.{Count}
use Rattle.compared.specs.declared.tally.Tally.{Tally}

-- one more, unless the count is full
abbrev pub more : ℕ → ℕ
more n = min (n + 1) (2 ^ 64 - 1)

abbrev pub counted : Bool → Count → Count
counted true c = record { right = more c.right; all = more c.all }
counted false c = record { right = c.right; all = more c.all }

-- the first wrong line, once this line is judged
abbrev pub first_wrong : ℕ → Bool → Option ℕ → Option ℕ
first_wrong n right (Some k) = Some k
first_wrong n true None = None
first_wrong n false None = Some n

-- an answer that has to be the crate's is one of the records where that has bytes, and one of the refusals else
abbrev pub same_counted : ℕ → Bool → Bool → Tally → Tally
same_counted n true right t = record t { records = counted right t.records; wrong = first_wrong n right t.wrong }
same_counted n false right t = record t { refusals = counted right t.refusals; wrong = first_wrong n right t.wrong }

abbrev pub difference_counted : ℕ → Bool → Tally → Tally
difference_counted n right t = record t { differences = counted right t.differences; wrong = first_wrong n right t.wrong }

-- the crate's answer and ours, which have to be the same; the tallies are those before and after
abbrev pub Same : ℕ → List ℕ → List ℕ → Tally → Tally → Type 0
Same n crates ours t t' =
    (crates ≡ ours → t' ≡ same_counted n (starts_with ◌==◌ crates (codes "bytes ")) true t)
    × (crates ≢ ours → t' ≡ same_counted n (starts_with ◌==◌ crates (codes "bytes ")) false t)

-- they have to differ
abbrev pub Different : ℕ → List ℕ → List ℕ → Tally → Tally → Type 0
Different n crates ours t t' =
    (crates ≢ ours → t' ≡ difference_counted n true t)
    × (crates ≡ ours → t' ≡ difference_counted n false t)

-- as in `3 of 4`
abbrev pub count_told : Count → List ℕ
count_told c = decimal c.right ++ (codes " of " ++ decimal c.all)

-- lines are told from 1 on
abbrev pub wrong_told : Option ℕ → List ℕ
wrong_told None = codes ""
wrong_told (Some n) = codes "\nthe first that is wrong: line " ++ decimal (more n)

abbrev pub tally_told : Tally → List ℕ
tally_told t =
    codes "records with the bytes of quick-xml 0.42.0: " ++ (count_told t.records
    ++ (codes "\ncalls refused where it answers Unsupported: " ++ (count_told t.refusals
    ++ (codes "\nknown differences that still differ: " ++ (count_told t.differences ++ wrong_told t.wrong)))))
