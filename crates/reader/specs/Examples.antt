-- Readings worked by hand, and bytes that have none. Assumes nothing.
use Rattle.std.specs.Prelude.{List, [], ◌∷◌, ◌++◌, codes}
use Rattle.std.specs.List.{AllByRecursion}
use Rattle.reader.specs.Trees.{Bytes, done, text, elem, Tree, tree, empty}
use Rattle.reader.specs.Reader.{Reads}

-- bytes, and the trees that they say
pub record Reading : Type 0 where
  pub bytes : Bytes
  pub says : List Tree

-- <sheet no="12"><title>Alp &amp; Tal</title></sheet>
abbrev pub titled : Reading
titled =
    record { bytes = codes "<sheet no=\"12\"><title>Alp &amp; Tal</title></sheet>"; says = tree (codes "sheet") ((codes "no", codes "12") ∷ []) (elem (codes "title") [] (text (codes "Alp & Tal") done) done) ∷ [] }

-- white space: in the value of b a raw tab, then a raw carriage return with line feed, then a reference to a line feed;
-- in c a raw carriage return
abbrev pub white_space : Reading
white_space =
    record { bytes = codes "<a b=\"1" ++ (9 ∷ codes "2" ++ (13 ∷ 10 ∷ codes "3&#10;\"/><c>" ++ (13 ∷ codes "</c>"))); says = empty (codes "a") ((codes "b", codes "1 2 3" ++ (10 ∷ [])) ∷ []) ∷ tree (codes "c") [] (text (10 ∷ []) done) ∷ [] }

-- <p q="" q=">"><r></r>]]&gt;<s />, a byte 1, </p>: a repeated attribute name and a control character are taken
abbrev pub repeated : Reading
repeated =
    record { bytes = codes "<p q=\"\" q=\">\"><r></r>]]&gt;<s />" ++ (1 ∷ codes "</p>"); says = tree (codes "p") ((codes "q", []) ∷ (codes "q", codes ">") ∷ []) (elem (codes "r") [] done (text (codes "]]>") (elem (codes "s") [] done (text (1 ∷ []) done)))) ∷ [] }

-- no bytes are a row of no elements
abbrev pub nothing : Reading
nothing = record { bytes = []; says = [] }

abbrev pub ExampleReads : Type 0
ExampleReads = AllByRecursion (λ (e : Reading). Reads e.bytes e.says) (titled ∷ white_space ∷ repeated ∷ nothing ∷ [])

-- what no text and no value may hold: a raw ]]>, a & that begins none of the nine references, a < or a lone " in a value
abbrev pub unreadable_text : List Bytes
unreadable_text = codes "<a>]]></a>" ∷ codes "<a>&</a>" ∷ codes "<a>&nbsp;</a>" ∷ codes "<a>&#65;</a>" ∷ codes "<a b=\"&\"/>" ∷ codes "<a b=\"<\"/>" ∷ codes "<a b=\"\"\"/>" ∷ []

-- tags that do not match, are cut short or are spaced another way, and names that are none
abbrev pub unreadable_tags : List Bytes
unreadable_tags = codes "<a></b>" ∷ codes "<a>" ∷ codes "<a/" ∷ codes "</a>" ∷ codes "<a b='1'/>" ∷ codes "<a b = \"1\"/>" ∷ codes "<a  b=\"1\"/>" ∷ codes "<a b=\"1\"c=\"2\"/>" ∷ codes "<a b/>" ∷ codes "<1/>" ∷ codes "<a 1=\"\"/>" ∷ []

-- something beside the elements
abbrev pub unreadable_rows : List Bytes
unreadable_rows = codes "<a/> <b/>" ∷ codes "a" ∷ codes "&lt;" ∷ []

-- bytes that are no UTF-8: a lone 128
abbrev pub unreadable_bytes : List Bytes
unreadable_bytes = (codes "<a>" ++ (128 ∷ codes "</a>")) ∷ []

abbrev pub ExampleUnreadable : Type 0
ExampleUnreadable = AllByRecursion (λ (bs : Bytes). (ts : List Tree) → Reads bs ts → ⊥) ((unreadable_text ++ (unreadable_tags ++ unreadable_rows)) ++ unreadable_bytes)
