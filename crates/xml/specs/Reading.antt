-- How a reader of XML 1.0 takes the characters of a text or of an attribute value: line ends first (section 2.11),
-- then references, and in a value white space (section 3.3.3). Assumes nothing.
use Rattle.std.specs.Prelude.{◌≡◌, ℕ, Bool, true, false, cond, ◌&&◌, ◌||◌, ◌≢◌, List, [], ◌∷◌, ◌++◌, codes, ◌==◌}

-- section 2.11: 13 10 is read as 10, and so is 13 alone
abbrev pub lines_after : Bool → List ℕ → List ℕ
lines_after returned [] = []
lines_after returned (b ∷ bs) = cond (b == 13) (10 ∷ lines_after true bs) (cond (returned && b == 10) (lines_after false bs) (b ∷ lines_after false bs))

abbrev pub lines : List ℕ → List ℕ
lines bs = lines_after false bs

-- the nine references, and the byte that each is read as
pub data Reference : List ℕ → ℕ → Type 0 where
  lt : Reference (codes "&lt;") 60
  gt : Reference (codes "&gt;") 62
  apos : Reference (codes "&apos;") 39
  amp : Reference (codes "&amp;") 38
  quot : Reference (codes "&quot;") 34
  tab : Reference (codes "&#9;") 9
  line_feed : Reference (codes "&#10;") 10
  carriage_return : Reference (codes "&#13;") 13
  space : Reference (codes "&#32;") 32

-- bs begins with these bytes
abbrev pub begins : List ℕ → List ℕ → Bool
begins [] bs = true
begins (x ∷ xs) [] = false
begins (x ∷ xs) (b ∷ bs) = x == b && begins xs bs

-- the characters of a text (CharData and Reference): no raw <, & only in a reference, no raw ]]>
pub data CharData : List ℕ → List ℕ → Type 0 where
  text_end : CharData [] []
  text_raw : {b : ℕ} {raw value : List ℕ} → b ≢ 60 → b ≢ 38 → begins (codes "]]>") (b ∷ raw) ≡ false → CharData raw value → CharData (b ∷ raw) (b ∷ value)
  text_reference : {r : List ℕ} {b : ℕ} {raw value : List ℕ} → Reference r b → CharData raw value → CharData (r ++ raw) (b ∷ value)

-- section 3.3.3: raw tab and line feed in a value are read as a space
abbrev pub value_byte : ℕ → ℕ
value_byte b = cond (b == 9 || b == 10) 32 b

-- the inside of a value in double quotes (AttValue), its line ends handled before: no raw < or ", & only in a reference
pub data AttValue : List ℕ → List ℕ → Type 0 where
  value_end : AttValue [] []
  value_raw : {b : ℕ} {raw value : List ℕ} → b ≢ 60 → b ≢ 38 → b ≢ 34 → AttValue raw value → AttValue (b ∷ raw) (value_byte b ∷ value)
  value_reference : {r : List ℕ} {b : ℕ} {raw value : List ℕ} → Reference r b → AttValue raw value → AttValue (r ++ raw) (b ∷ value)
