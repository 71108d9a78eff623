-- How deep indents are: an element in marks, by the productions of XML 1.0, Fifth Edition, at a depth. Assumes nothing.
use Rattle.std.specs.Prelude.{◌≡◌, ℕ, suc, ◌*◌, List, [], ◌∷◌, ◌++◌, replicate, Some, None, codes, Option}
use Rattle.style.specs.declared.indentation.Indentation.{Indentation}
use Rattle.xml.specs.Names.{Name}
use Rattle.reader.specs.Trees.{Bytes, Attributes}
use Rattle.reader.specs.Reader.{Attribs}
use Rattle.model.specs.Calls.{Call}
use Rattle.model.specs.Marks.{Mark, tag_byte, text_byte, lead, indent, bytes_of_mark, tagged}
use Rattle.model.specs.Model.{idle}
use Rattle.model.specs.Table.{Setting}
use Rattle.model.specs.Documents.{accepted_calls, documents, layouts}
use Rattle.model.specs.Laws.{sink_after, answers_to}
use Rattle.std.specs.List.{AllByRecursion}

-- the `<` of a tag around which d elements are open: behind the indent of d levels, or without an indent
pub data LessAt : ℕ → Mark → Type 0 where
  indented : {d : ℕ} → LessAt d (lead d)
  plain : {d : ℕ} → LessAt d (tag_byte 60)

mutual
  -- production 39, element ::= EmptyElemTag | STag content ETag, where d elements are open around it. A name and attributes hold no
  -- `<`, and neither begins or ends with a `/`, so each tag, its kind and what stands around it are told by the marks alone
  pub data ElementAt : ℕ → List Mark → Type 0 where
    -- production 44, EmptyElemTag
    empty_tag : {d : ℕ} {m : Mark} {n a : Bytes} {at : Attributes} → LessAt d m → Name n → Attribs a at → ElementAt d (m ∷ tagged (n ++ (a ++ codes "/>")))
    -- the same with a space in it
    spaced_empty_tag : {d : ℕ} {m : Mark} {n a : Bytes} {at : Attributes} → LessAt d m → Name n → Attribs a at → ElementAt d (m ∷ tagged (n ++ (a ++ codes " />")))
    -- productions 40 and 42, STag and ETag, both with d elements around them, and one more around what stands between them
    tags : {d : ℕ} {m k : Mark} {n a : Bytes} {c : List Mark} {at : Attributes} → LessAt d m → Name n → Attribs a at → ContentAt (suc d) c → LessAt d k → ElementAt d (m ∷ (tagged (n ++ (a ++ codes ">")) ++ (c ++ (k ∷ tagged (codes "/" ++ (n ++ codes ">"))))))

  -- production 43, content: bytes of texts, and elements around which d are open
  pub data ContentAt : ℕ → List Mark → Type 0 where
    content_end : {d : ℕ} → ContentAt d []
    content_text : {d : ℕ} {b : ℕ} {c : List Mark} → ContentAt d c → ContentAt d (text_byte b ∷ c)
    content_element : {d : ℕ} {e c : List Mark} → ElementAt d e → ContentAt d c → ContentAt d (e ++ c)

-- what an indent of d levels is: a line feed, then the indent byte, size times for each level; without indentation it is no bytes.
-- Every other mark is its own byte, whatever the indentation
pub record BytesOfMarks : Type 0 where
  pub before_its_tag : (i : Option Indentation) (d : ℕ) → bytes_of_mark i (lead d) ≡ indent i d ++ codes "<"
  pub indented : (i : Indentation) (d : ℕ) → indent (Some i) d ≡ 10 ∷ replicate (i.size * d) i.byte
  pub unindented : (d : ℕ) → indent None d ≡ []
  pub of_tags : (i : Option Indentation) (b : ℕ) → bytes_of_mark i (tag_byte b) ≡ b ∷ []
  pub of_texts : (i : Option Indentation) (b : ℕ) → bytes_of_mark i (text_byte b) ≡ b ∷ []

-- Depth of indents: a sink holds the layout of records, each an element around which none is open: so each indent in it is as deep as
-- elements are open around its tag. They are the open records, since an element around a text holds no tag
abbrev pub DepthOfIndents : Type 0
DepthOfIndents =
    (w : Setting) (cs : List Call) (r : ℕ) → (sink_after w cs r ≡ layouts w.indentation (documents w.form (accepted_calls cs (answers_to w cs r)) idle)) × AllByRecursion (ElementAt 0) (documents w.form (accepted_calls cs (answers_to w cs r)) idle) × BytesOfMarks
