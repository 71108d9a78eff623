-- What a record says, as data: elements with their attributes and children, and texts between them. Assumes nothing.
use Rattle.std.specs.Prelude.{ℕ, List, [], ◌∷◌}

-- a byte is a number below 256; nothing here asks for that, since UTF-8 does
abbrev pub Bytes : Type 0
Bytes = List ℕ

-- the attributes of an element in their order, each a name and a value
abbrev pub Attributes : Type 0
Attributes = List (Bytes × Bytes)

-- a row of texts and elements: its first node, and the row that follows
pub data Nodes : Type 0 where
  done : Nodes
  text : Bytes → Nodes → Nodes
  -- name, attributes, children, what follows
  elem : Bytes → Attributes → Nodes → Nodes → Nodes

-- one element by itself
pub record Tree : Type 0 where
  pub name : Bytes
  pub attrs : Attributes
  pub kids : Nodes

-- the element of this name, with these attributes and children
abbrev pub tree : Bytes → Attributes → Nodes → Tree
tree n at ks = record { name = n; attrs = at; kids = ks }

-- an element with nothing in it
abbrev pub empty : Bytes → Attributes → Tree
empty n at = tree n at done

infixr 60 ◌▹◌
infixr 60 ◌⧺◌
-- a byte of text in front of a row, joined to the text that the row begins with
abbrev pub ◌▹◌ : ℕ → Nodes → Nodes
b ▹ done = text (b ∷ []) done
b ▹ (text s ns) = text (b ∷ s) ns
b ▹ (elem n at ks ns) = text (b ∷ []) (elem n at ks ns)

-- a text in front of a row: it joins the text there, and an empty one is none
abbrev pub before : Bytes → Nodes → Nodes
before [] ns = ns
before (b ∷ s) ns = b ▹ before s ns

-- the same row with neighbouring texts as one, and without empty texts
abbrev pub tidy : Nodes → Nodes
tidy done = done
tidy (text s ns) = before s (tidy ns)
tidy (elem n at ks ns) = elem n at ks (tidy ns)

-- two rows one after the other
abbrev pub ◌⧺◌ : Nodes → Nodes → Nodes
done ⧺ ms = ms
(text s ns) ⧺ ms = text s (ns ⧺ ms)
(elem n at ks ns) ⧺ ms = elem n at ks (ns ⧺ ms)
