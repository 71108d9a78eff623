-- The nine bytes that have a replacement, and what each reads as. Assumes nothing.
use Rattle.std.proofs.Common.{◌≡◌, ℕ, Bool, true, List, [], ◌∷◌}
use Rattle.std.specs.List.{list_all}
use Rattle.xml.specs.Escaping.{among, nine, replacement}
use Rattle.xml.specs.Levels.{of_each}
use Rattle.xml.specs.Reading.{Reference, lt, gt, apos, amp, quot, tab, line_feed, carriage_return, space}

abbrev pub nines : List ℕ
nines = 60 ∷ 62 ∷ 39 ∷ 38 ∷ 34 ∷ 9 ∷ 10 ∷ 13 ∷ 32 ∷ []

-- every byte of xs is among ys
abbrev pub inside : List ℕ → List ℕ → Bool
inside xs ys = list_all (λ x. among x ys) xs

pub nine_reference : (b : ℕ) → nine b ≡ true → Reference (replacement b) b
nine_reference b h = of_each (λ b. Reference (replacement b) b) nines b (lt, (gt, (apos, (amp, (quot, (tab, (line_feed, (carriage_return, (space, tt))))))))) h
