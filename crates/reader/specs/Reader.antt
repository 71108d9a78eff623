-- The reader: which bytes say which trees. It reads a row of elements by the productions of XML 1.0, Fifth Edition,
-- as far as records go: no prolog, comments, CDATA or processing instructions, and white space in tags only as one
-- byte 32 before an attribute or before `/>`. Control characters and repeated attribute names are taken. Assumes nothing.
use Rattle.std.specs.Prelude.{◌≡◌, ℕ, false, ◌≢◌, List, [], ◌∷◌, ◌++◌, codes, IsUtf8}
use Rattle.xml.specs.Names.{Name}
use Rattle.xml.specs.Reading.{Reference, AttValue, begins, lines}
use Rattle.reader.specs.Trees.{Bytes, Attributes, Nodes, done, elem, Tree, tree, empty, ◌▹◌}

-- the attributes in a tag: the (S Attribute)* of productions 40 and 44
pub data Attribs : Bytes → Attributes → Type 0 where
  attribs_end : Attribs [] []
  -- production 41, Attribute ::= Name Eq AttValue, with a space before it and the value in double quotes
  attribs_more : {n raw v a : Bytes} {at : Attributes} → Name n → AttValue raw v → Attribs a at → Attribs (codes " " ++ (n ++ (codes "=\"" ++ (raw ++ (codes "\"" ++ a))))) ((n, v) ∷ at)

mutual
  -- production 39, element ::= EmptyElemTag | STag content ETag
  pub data Element : Bytes → Tree → Type 0 where
    -- production 44, EmptyElemTag
    empty_tag : {n a : Bytes} {at : Attributes} → Name n → Attribs a at → Element (codes "<" ++ (n ++ (a ++ codes "/>"))) (empty n at)
    -- the same with a space in it
    spaced_empty_tag : {n a : Bytes} {at : Attributes} → Name n → Attribs a at → Element (codes "<" ++ (n ++ (a ++ codes " />"))) (empty n at)
    -- productions 40 and 42, STag and ETag, with the same name in both
    tags : {n a c : Bytes} {at : Attributes} {ns : Nodes} → Name n → Attribs a at → Content c ns → Element (codes "<" ++ (n ++ (a ++ (codes ">" ++ (c ++ (codes "</" ++ (n ++ codes ">"))))))) (tree n at ns)

  -- production 43, content ::= CharData? ((element | Reference) CharData?)*, byte by byte
  pub data Content : Bytes → Nodes → Type 0 where
    content_end : Content [] done
    -- production 14, CharData: no raw < or &, and no raw ]]>
    content_raw : {b : ℕ} {c : Bytes} {ns : Nodes} → b ≢ 60 → b ≢ 38 → begins (codes "]]>") (b ∷ c) ≡ false → Content c ns → Content (b ∷ c) (b ▹ ns)
    -- production 67, Reference, read as the byte that it stands for
    content_reference : {r c : Bytes} {b : ℕ} {ns : Nodes} → Reference r b → Content c ns → Content (r ++ c) (b ▹ ns)
    content_element : {e c : Bytes} {t : Tree} {ns : Nodes} → Element e t → Content c ns → Content (e ++ c) (elem t.name t.attrs t.kids ns)

-- elements one after another, with nothing between them
pub data Row : Bytes → List Tree → Type 0 where
  row_end : Row [] []
  row_more : {e r : Bytes} {t : Tree} {ts : List Tree} → Element e t → Row r ts → Row (e ++ r) (t ∷ ts)

-- the bytes are UTF-8 and, once line ends are handled (section 2.11), a row that says these trees
abbrev pub Reads : Bytes → List Tree → Type 0
Reads bs ts = IsUtf8 bs × Row (lines bs) ts

-- they say these trees, and nothing else
pub record ReadsExactly (bs : Bytes) (ts : List Tree) : Type 0 where
  pub reads : Reads bs ts
  pub only : (us : List Tree) → Reads bs us → us ≡ ts
