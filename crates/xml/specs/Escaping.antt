-- Escaping: the nine replacements, what an escaping rule must choose for each use, and the bytes that come out. Assumes nothing.
use Rattle.std.specs.Prelude.{◌≡◌, ℕ, Bool, true, false, cond, ◌||◌, List, [], ◌∷◌, codes, ◌==◌}
use Rattle.std.specs.List.{flat_map}
use Rattle.xml.specs.declared.escape.Use.{Use}
use Rattle.xml.specs.declared.escape.Use.TheVariants.{Text, Attribute, TextItem, AttributeItem}
use Rattle.xml.specs.declared.escape.QuoteLevel.{QuoteLevel}
use Rattle.xml.specs.declared.escape.QuoteLevel.TheVariants.{Full, Partial, Minimal}

abbrev pub among : ℕ → List ℕ → Bool
among b [] = false
among b (x ∷ xs) = b == x || among b xs

-- the bytes that have a replacement: < > ' & " tab, line feed, carriage return and space
abbrev pub nine : ℕ → Bool
nine b = among b (60 ∷ 62 ∷ 39 ∷ 38 ∷ 34 ∷ 9 ∷ 10 ∷ 13 ∷ 32 ∷ [])

-- the replacement of each of the nine
abbrev pub replacement : ℕ → List ℕ
replacement b =
    cond (b == 60) (codes "&lt;") (cond (b == 62) (codes "&gt;") (cond (b == 39) (codes "&apos;") (cond (b == 38) (codes "&amp;") (cond (b == 34) (codes "&quot;") (cond (b == 9) (codes "&#9;") (cond (b == 10) (codes "&#10;") (cond (b == 13) (codes "&#13;") (codes "&#32;"))))))))

-- what every rule chooses for a use, whatever else it chooses: & and < everywhere, > in text, " and the
-- white space that a reader would normalize in an attribute, carriage return in text, all white space in an item
abbrev pub must : Use → List ℕ
must Text = 38 ∷ 60 ∷ 62 ∷ 13 ∷ []
must Attribute = 38 ∷ 60 ∷ 34 ∷ 9 ∷ 10 ∷ 13 ∷ []
must TextItem = 38 ∷ 60 ∷ 62 ∷ 9 ∷ 10 ∷ 13 ∷ 32 ∷ []
must AttributeItem = 38 ∷ 60 ∷ 34 ∷ 9 ∷ 10 ∷ 13 ∷ 32 ∷ []

abbrev pub asked : Use → ℕ → Bool
asked u b = among b (must u)

-- what a level chooses beyond that, in every use
abbrev pub added : QuoteLevel → ℕ → Bool
added Full b = among b (62 ∷ 39 ∷ 34 ∷ [])
added Partial b = among b (62 ∷ [])
added Minimal b = false

abbrev pub level_chooses : QuoteLevel → Use → ℕ → Bool
level_chooses q u b = asked u b || added q b

-- one byte, as it is or replaced
abbrev pub piece : (ℕ → Bool) → ℕ → List ℕ
piece chosen b = cond (chosen b) (replacement b) (b ∷ [])

-- the bytes of a value with each chosen one replaced
abbrev pub escaped : (ℕ → Bool) → List ℕ → List ℕ
escaped chosen bs = flat_map (piece chosen) bs

-- the laws of a rule, for one use: only bytes that have a replacement are chosen, and whatever the use asks for is
pub record Lawful (u : Use) (chosen : ℕ → Bool) : Type 0 where
  pub within : (b : ℕ) → chosen b ≡ true → nine b ≡ true
  pub enough : (b : ℕ) → asked u b ≡ true → chosen b ≡ true
