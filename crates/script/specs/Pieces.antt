-- An argument as pieces, one for each byte that it stands for. Assumes nothing.
use Rattle.std.specs.Prelude.{◌≡◌, ℕ, ◌+◌, ◌*◌, cond, List, [], ◌∷◌, Some, None, Option, ◌==◌}
use Rattle.std.specs.List.{flat_map}
use Rattle.script.specs.Cuts.{behind}
use Rattle.script.specs.Escapes.{hex_digit, led, unescaped}

-- a byte that stands for itself, or an escape
pub data Piece : Type 0 where
  itself : ℕ → Piece
  line_feed : Piece
  carriage_return : Piece
  tab : Piece
  backslash : Piece
  digits : ℕ → ℕ → Piece

-- the bytes of a piece: an escape begins with a backslash, 92
abbrev pub written : Piece → List ℕ
written (itself b) = b ∷ []
written line_feed = 92 ∷ 110 ∷ []
written carriage_return = 92 ∷ 114 ∷ []
written tab = 92 ∷ 116 ∷ []
written backslash = 92 ∷ 92 ∷ []
written (digits high low) = 92 ∷ 120 ∷ high ∷ low ∷ []

-- the byte with these two digits, where both are digits
abbrev pub two_digits : Option ℕ → Option ℕ → Option ℕ
two_digits None low = None
two_digits (Some m) None = None
two_digits (Some m) (Some n) = Some (m * 16 + n)

-- the byte that a piece stands for; a backslash alone stands for none
abbrev pub byte_of : Piece → Option ℕ
byte_of (itself b) = cond (b == 92) None (Some b)
byte_of line_feed = Some 10
byte_of carriage_return = Some 13
byte_of tab = Some 9
byte_of backslash = Some 92
byte_of (digits high low) = two_digits (hex_digit high) (hex_digit low)

abbrev pub with_byte : Option ℕ → Option (List ℕ) → Option (List ℕ)
with_byte None bs = None
with_byte (Some b) bs = led (b ∷ []) bs

-- the bytes that pieces stand for
abbrev pub bytes_of : List Piece → Option (List ℕ)
bytes_of [] = Some []
bytes_of (p ∷ ps) = with_byte (byte_of p) (bytes_of ps)

-- the text falls into pieces that stand for these bytes
pub record StandsFor (text bs : List ℕ) : Type 0 where
  pub pieces : List Piece
  pub spelt : flat_map written pieces ≡ text
  pub bytes : bytes_of pieces ≡ Some bs

-- an argument is read as its pieces say, and one that does not fall into pieces is not read
abbrev pub ReadByPieces : Type 0
ReadByPieces = (text bs : List ℕ) → (unescaped text ≡ Some bs → StandsFor text bs) × (StandsFor text bs → unescaped text ≡ Some bs)

-- any bytes at all can be written as an argument, within one line
abbrev pub AnyBytes : Type 0
AnyBytes = (bs : List ℕ) → (text : List ℕ) × (unescaped text ≡ Some bs) × (behind 10 text ≡ None)
