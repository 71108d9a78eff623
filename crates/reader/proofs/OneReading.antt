-- Bytes have at most one reading, since the scanner ends with the trees of whatever reading they have.
use Rattle.std.proofs.Common.{◌≡◌, true, false, not, eqb, List, [], ◌∷◌, ◌++◌, codes, sym, refl, ap, ◌∙◌, ⊎_elim, append_assoc}
use Rattle.std.specs.List.{list_all}
use Rattle.std.proofs.lemmas.Bool.{ne_eqb, not-true, and_left, and_right, and_cases, and_parts, both_ways}
use Rattle.xml.specs.Reading.{begins, lines}
use Rattle.reader.specs.Trees.{Bytes, Attributes, Nodes, done, text, elem, Tree, tree, ◌▹◌}
use Rattle.reader.specs.Reader.{Element, empty_tag, spaced_empty_tag, tags, Content, content_end, content_raw, content_reference, content_element, Row, row_end, row_more, Reads}
use Rattle.reader.specs.Laws.{OneReading}
use Rattle.reader.proofs.Tidy.{◌⊕◌, ⊕_assoc, alone}
use Rattle.reader.proofs.Scanner.{Around, outermost, inside, adds, children, Scan, saying, opened, naming, spaced, slashed, leaving, scan, then, scan_tag, scan_end, scan_reference, bytes_eq_self, named_is}

-- a content is followed by <, so that ]]> does not begin in it and end behind it
before_tag : (xs c rest : Bytes) → list_all (λ x. not (eqb x 60)) xs ≡ true → begins xs c ≡ false → begins xs (c ++ (60 ∷ rest)) ≡ false
before_tag [] c rest h e = absurd (both_ways true e refl)
before_tag (x ∷ xs) [] rest h e = and_left (eqb x 60) (begins xs rest) (not-true (eqb x 60) (and_parts (not (eqb x 60)) (list_all (λ x. not (eqb x 60)) xs) h).0)
before_tag (x ∷ xs) (b ∷ c) rest h e =
    ⊎_elim (λ k. and_left (eqb x b) (begins xs (c ++ (60 ∷ rest))) k) (λ k. and_right (eqb x b) (begins xs (c ++ (60 ∷ rest))) (before_tag xs c rest (and_parts (not (eqb x 60)) (list_all (λ x. not (eqb x 60)) xs) h).1 k)) (and_cases (eqb x b) (begins xs c) e)

-- an element from < to >, and a content up to the < behind it
mutual
  scan_element : {e : Bytes} {t : Tree} → Element e t → (o : Around) (rest : Bytes) → scan (saying (children o)) (e ++ rest) ≡ scan (saying (children (adds (alone t) o))) rest
  scan_element (empty_tag {n} {at} h m) o rest =
      scan_tag h m o (codes "/>") rest ∙ then (naming n at o) (slashed n at o) 47 (codes ">" ++ rest) (rw (named_is h))
  scan_element (spaced_empty_tag {n} {at} h m) o rest =
      scan_tag h m o (codes " />") rest ∙ then (naming n at o) (spaced n at o) 32 (codes "/>" ++ rest) (rw (named_is h))
  scan_element (tags {n} {a} {c} {at} {ns} h m k) o rest =
      let close = codes "/" ++ (n ++ (codes ">" ++ rest)) in
      scan_tag h m o (codes ">" ++ (c ++ (codes "</" ++ (n ++ codes ">")))) rest
      ∙ then (naming n at o) (saying (children (inside n at o done))) 62 ((c ++ (codes "</" ++ (n ++ codes ">"))) ++ rest) (rw (named_is h))
      ∙ rw (append_assoc c (codes "</" ++ (n ++ codes ">")) rest, append_assoc n (codes ">") rest) (scan_content k n at o done refl close)
      ∙ scan_end h (inside n at o ns) (codes ">" ++ rest)
      ∙ then (leaving n (inside n at o ns)) (saying (children (adds (elem n at ns done) o))) 62 rest (rw (bytes_eq_self n))

  scan_content : {c : Bytes} {ns : Nodes} → Content c ns → (n : Bytes) (at : Attributes) (o : Around) (ks : Nodes) → ks ⊕ done ≡ ks → (rest : Bytes) → scan (saying (children (inside n at o ks))) (c ++ (60 ∷ rest)) ≡ scan (opened (inside n at o (ks ⊕ ns))) rest
  scan_content content_end n at o ks e rest = ap (λ x. scan (opened (inside n at o x)) rest) (sym e)
  scan_content (content_raw {b} {c} {ns} p q f k) n at o ks e rest =
      then (saying (children (inside n at o ks))) (saying (children (inside n at o (ks ⊕ (b ▹ done))))) b (c ++ (60 ∷ rest)) (rw (ne_eqb b 38 q, ne_eqb b 60 p, before_tag (codes "]]>") (b ∷ c) rest refl f))
      ∙ scan_content k n at o (ks ⊕ (b ▹ done)) (⊕_assoc ks (b ▹ done) done) rest
      ∙ ap (λ x. scan (opened (inside n at o x)) rest) (⊕_assoc ks (b ▹ done) ns)
  scan_content (content_reference {r} {c} {b} {ns} p k) n at o ks e rest =
      rw (append_assoc r c (60 ∷ rest)) (scan_reference p (children (inside n at o ks)) (c ++ (60 ∷ rest)))
      ∙ scan_content k n at o (ks ⊕ (b ▹ done)) (⊕_assoc ks (b ▹ done) done) rest
      ∙ ap (λ x. scan (opened (inside n at o x)) rest) (⊕_assoc ks (b ▹ done) ns)
  scan_content (content_element {e = x} {c} {t} {ns} p k) n at o ks e rest =
      rw (append_assoc x c (60 ∷ rest)) (scan_element p (inside n at o ks) (c ++ (60 ∷ rest)))
      ∙ scan_content k n at o (ks ⊕ alone t) (⊕_assoc ks (alone t) done) rest
      ∙ ap (λ x. scan (opened (inside n at o x)) rest) (⊕_assoc ks (alone t) ns)

-- a row of elements as a row of nodes, and back
pub row_nodes : List Tree → Nodes
row_nodes [] = done
row_nodes (t ∷ ts) = elem t.name t.attrs t.kids (row_nodes ts)

row_trees : Nodes → List Tree
row_trees done = []
row_trees (text s ns) = row_trees ns
row_trees (elem n at ks ns) = tree n at ks ∷ row_trees ns

row_same : (ts : List Tree) → row_trees (row_nodes ts) ≡ ts
unfolding row_nodes row_trees
row_same [] = refl
row_same (t ∷ ts) = ap (λ us. t ∷ us) (row_same ts)

scan_row : {r : Bytes} {ts : List Tree} → Row r ts → (ks : Nodes) → ks ⊕ done ≡ ks → scan (saying (children (outermost ks))) r ≡ saying (children (outermost (ks ⊕ row_nodes ts)))
unfolding row_nodes
scan_row row_end ks e = ap (λ x. saying (children (outermost x))) (sym e)
scan_row (row_more {r} {t} {ts} p m) ks e =
    scan_element p (outermost ks) r ∙ scan_row m (ks ⊕ alone t) (⊕_assoc ks (alone t) done) ∙ ap (λ x. saying (children (outermost x))) (⊕_assoc ks (alone t) (row_nodes ts))

-- where the scanner ends on bytes that have a reading
abbrev pub start : Scan
start = saying (children (outermost done))

pub scan_reads : {bs : Bytes} {ts : List Tree} → Reads bs ts → scan start (lines bs) ≡ saying (children (outermost (row_nodes ts)))
scan_reads p = scan_row p.1 done refl

pub one_reading : OneReading
one_reading bs ts us p q =
    let e : saying (children (outermost (row_nodes ts))) ≡ saying (children (outermost (row_nodes us))) = sym (scan_reads p) ∙ scan_reads q in
    let k : row_nodes ts ≡ row_nodes us = cc in
    sym (row_same ts) ∙ ap row_trees k ∙ row_same us

-- a content says one row of nodes
pub one_content : {c : Bytes} {ns ms : Nodes} → Content c ns → Content c ms → ns ≡ ms
one_content {c} {ns} {ms} p q =
    let o : Around = outermost done in
    let e : opened (inside [] [] o ns) ≡ opened (inside [] [] o ms) = sym (scan_content p [] [] o done refl []) ∙ scan_content q [] [] o done refl [] in
    cc
