-- What is written, free of any indentation: bytes of tags, bytes of texts, and where an indent belongs. Assumes nothing.
use Rattle.std.specs.Prelude.{ℕ, ◌*◌, Bool, cond, List, [], ◌∷◌, ◌++◌, map, replicate, Some, None, codes, Option}
use Rattle.style.specs.declared.indentation.Indentation.{Indentation}
use Rattle.style.specs.declared.style.EmptyElementHandling.{EmptyElementHandling}
use Rattle.style.specs.declared.style.EmptyElementHandling.TheVariants.{SelfClosed, SelfClosedWithSpace, Expanded}
use Rattle.reader.specs.Trees.{Bytes}

-- one piece of what is written
pub data Mark : Type 0 where
  -- a byte of a tag
  tag_byte : ℕ → Mark
  -- a byte of a text between tags
  text_byte : ℕ → Mark
  -- an indent and the `<` of the tag that it stands before; the number of records open around that tag
  lead : ℕ → Mark

-- an indent: a line feed, then the indent byte, size times for each record around the tag
abbrev pub indent : Option Indentation → ℕ → Bytes
indent None d = []
indent (Some i) d = 10 ∷ replicate (i.size * d) i.byte

-- the bytes of one mark
abbrev pub bytes_of_mark : Option Indentation → Mark → Bytes
bytes_of_mark i (tag_byte b) = b ∷ []
bytes_of_mark i (text_byte b) = b ∷ []
bytes_of_mark i (lead d) = indent i d ++ codes "<"

-- the bytes of marks in a row: their layout
abbrev pub flatten : Option Indentation → List Mark → Bytes
flatten i [] = []
flatten i (m ∷ ms) = bytes_of_mark i m ++ flatten i ms

-- bytes of tags
abbrev pub tagged : Bytes → List Mark
tagged bs = map tag_byte bs

-- bytes of a text
abbrev pub texted : Bytes → List Mark
texted bs = map text_byte bs

-- the `<` of a tag, with or without an indent before it
abbrev pub less_than : Bool → ℕ → Mark
less_than indented d = cond indented (lead d) (tag_byte 60)

-- how a tag without content ends, in each form
abbrev pub shut : EmptyElementHandling → Bytes → Bytes
shut SelfClosed n = codes "/>"
shut SelfClosedWithSpace n = codes " />"
shut Expanded n = codes "></" ++ (n ++ codes ">")

-- an empty element behind its `<`
abbrev pub empty_element : EmptyElementHandling → Bytes → List Mark
empty_element f n = tagged (n ++ shut f n)

-- an element around a text, behind its `<`
abbrev pub text_element : Bytes → Bytes → List Mark
text_element n s = tagged (n ++ codes ">") ++ (texted s ++ tagged (codes "</" ++ (n ++ codes ">")))
