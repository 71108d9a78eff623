-- The bytes that a call brings: whether they are well-formed UTF-8, and if not, how far they are. Assumes nothing.
use Rattle.std.specs.Prelude.{ℕ, zero, suc, Bool, true, false, cond, ◌&&◌, [], ◌∷◌, length, take}
use Rattle.std.proofs.Math.Utf8.{scalars, encodes}
use Rattle.std.specs.Str.{chars, bytes_eq}
use Rattle.reader.specs.Trees.{Bytes}

-- there are no bytes
abbrev pub null : Bytes → Bool
null [] = true
null (b ∷ bs) = false

-- the bytes are the encoding of Unicode scalar values (RFC 3629)
abbrev pub utf8 : Bytes → Bool
utf8 bs = scalars (chars bs) && bytes_eq (encodes (chars bs)) bs

-- the greatest n up to k for which the first n bytes are well-formed
abbrev pub whole_upto : ℕ → Bytes → ℕ
whole_upto zero bs = 0
whole_upto (suc k) bs = cond (utf8 (take (suc k) bs)) (suc k) (whole_upto k bs)

-- the length of the longest beginning of whole characters
abbrev pub whole : Bytes → ℕ
whole bs = whole_upto (length bs) bs
