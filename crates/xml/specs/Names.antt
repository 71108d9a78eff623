-- Names: productions 4, 4a and 5 of XML 1.0, Fifth Edition, and where a name that is none goes wrong. Assumes nothing.
use Rattle.std.specs.Prelude.{◌≡◌, ℕ, ◌+◌, Bool, false, true, cond, ◌&&◌, ◌||◌, ◌⊎◌, List, [], ◌∷◌, ◌++◌, length, Some, None, Option, MatchOption, nat_le}
use Rattle.std.specs.List.{list_any, list_all}
use Rattle.std.proofs.Math.Utf8.{scalars, encode, encodes}
use Rattle.std.specs.Char.{len_utf8}
use Rattle.std.specs.Str.{chars as decodes}

-- the first and the last character of a range
pub record Range : Type 0 where
  pub first : ℕ
  pub last : ℕ

abbrev pub ◌to◌ : ℕ → ℕ → Range
a to b = record { first = a; last = b }

infix 70 ◌to◌
-- production 4, NameStartChar
abbrev pub start_ranges : List Range
start_ranges =
    0x3A to 0x3A ∷ 0x41 to 0x5A ∷ 0x5F to 0x5F ∷ 0x61 to 0x7A ∷ 0xC0 to 0xD6 ∷ 0xD8 to 0xF6 ∷ 0xF8 to 0x2FF ∷ 0x370 to 0x37D ∷ 0x37F to 0x1FFF ∷ 0x200C to 0x200D ∷ 0x2070 to 0x218F ∷ 0x2C00 to 0x2FEF ∷ 0x3001 to 0xD7FF ∷ 0xF900 to 0xFDCF ∷ 0xFDF0 to 0xFFFD ∷ 0x10000 to 0xEFFFF ∷ []

-- production 4a, NameChar: what it adds to NameStartChar
abbrev pub further_ranges : List Range
further_ranges = 0x2D to 0x2D ∷ 0x2E to 0x2E ∷ 0x30 to 0x39 ∷ 0xB7 to 0xB7 ∷ 0x300 to 0x36F ∷ 0x203F to 0x2040 ∷ []

abbrev pub within : List Range → ℕ → Bool
within rs c = list_any (λ r. nat_le r.first c && nat_le c r.last) rs

abbrev pub is_start : ℕ → Bool
is_start c = within start_ranges c

abbrev pub is_name_char : ℕ → Bool
is_name_char c = is_start c || within further_ranges c

-- production 5, Name ::= NameStartChar (NameChar)*, over characters
abbrev pub is_name : List ℕ → Bool
is_name [] = false
is_name (c ∷ cs) = is_start c && list_all is_name_char cs

-- these bytes are the UTF-8 of a name
pub record Name (bs : List ℕ) : Type 0 where
  pub chars : List ℕ
  pub scalar : scalars chars ≡ true
  pub spelt : encodes chars ≡ bs
  pub is : is_name chars ≡ true

-- whether c may stand behind the characters `front`: only a start character behind none
abbrev pub may_follow : List ℕ → ℕ → Bool
may_follow [] c = is_start c
may_follow (d ∷ ds) c = is_name_char c

-- k is the offset of the first character at fault: what comes before it begins a name or is nothing,
-- and it may not stand there, or is missing altogether
pub record FirstAtFault (bs : List ℕ) (k : ℕ) : Type 0 where
  pub front : List ℕ
  pub here : List ℕ
  pub spelt : encodes front ++ here ≡ bs
  pub offset : length (encodes front) ≡ k
  pub begun : (front ≡ []) ⊎ (is_name front ≡ true)
  pub fault : ((front ≡ []) × (here ≡ [])) ⊎ ((c : ℕ) × (rest : List ℕ) × (here ≡ encode c ++ rest) × (may_follow front c ≡ false))

-- what a search for the first fault may answer: none for a name, and else the place of the first
abbrev pub Faults : Option ℕ → List ℕ → Type 0
Faults found bs = MatchOption found (Name bs) (λ k. FirstAtFault bs k × (Name bs → ⊥))

-- the same as a test that computes: the place of the first character at fault among cs, counted on from `at`
abbrev pub stray_from : List ℕ → ℕ → Option ℕ
stray_from [] at = None
stray_from (c ∷ cs) at = cond (is_name_char c) (stray_from cs (at + len_utf8 c)) (Some at)

abbrev pub fault_from : List ℕ → ℕ → Option ℕ
fault_from [] at = Some at
fault_from (c ∷ cs) at = cond (is_start c) (stray_from cs (at + len_utf8 c)) (Some at)

-- where the bytes of a text stop being a name, if they do
abbrev pub name_fault : List ℕ → Option ℕ
name_fault bs = fault_from (decodes bs) 0
