-- The pieces that a step writes, unindented, read as what the step says.
use Rattle.std.proofs.Common.{◌≡◌, ℕ, Bool, true, false, List, [], ◌∷◌, ◌++◌, None, codes, IsUtf8, sym, ap, ◌∙◌, subst, append_assoc}
use Rattle.style.specs.declared.style.EmptyElementHandling.{EmptyElementHandling}
use Rattle.style.specs.declared.style.EmptyElementHandling.TheVariants.{SelfClosed, SelfClosedWithSpace, Expanded}
use Rattle.xml.specs.declared.escape.Use.{Use}
use Rattle.xml.specs.declared.escape.Use.TheVariants.{TextItem, AttributeItem}
use Rattle.xml.specs.Escaping.{escaped, Lawful}
use Rattle.xml.specs.Names.{Name}
use Rattle.xml.specs.Reading.{AttValue}
use Rattle.reader.specs.Trees.{Bytes, Attributes, Nodes, done, text, elem, Tree, empty, before, tidy, ◌⧺◌}
use Rattle.reader.specs.Reader.{Attribs, Element, content_end}
use Rattle.reader.proofs.Tidy.{◌⊕◌, before-⊕, before-++, ⊕_assoc, tidy-⧺, tidy-⊕_done}
use Rattle.reader.proofs.OneReading.{one_content}
use Rattle.reader.proofs.Sound.{Written}
use Rattle.reader.proofs.Calm.{Calm, read_calm}
use Rattle.reader.proofs.Written.{text_of_item, attribute_of_item, no_children, children-++, space_child, text_child, value-++, space_value, string_value, no_attribs, slash_element, spaced_element, expanded_element, full_element, element_child}
use Rattle.model.specs.Calls.{Rule}
use Rattle.model.specs.Marks.{Mark, flatten, bytes_of_mark, tagged, texted, less_than, shut, empty_element, text_element}
use Rattle.model.specs.Model.{Level}
use Rattle.model.specs.Step.{gap, end_tag, closed_record}
use Rattle.model.proofs.Flatten.{flatten-++, flatten_tagged, flatten_texted, plain_less}

pub lawful : (r : Rule) (u : Use) → Lawful u (r.chooses u)
lawful r u = record { within = r.within u; enough = r.enough u }

-- unindented, the marks of children read as these nodes
pub record Kids (ms : List Mark) (ks : Nodes) : Type 0 where
  pub are : Written Calm (flatten None ms) (tidy ks)

pub no_marks : Kids [] done
no_marks = record { are = no_children }

-- marks behind read as nodes behind
pub kids_more : {ms : List Mark} {ks : Nodes} (xs : List Mark) (ns : Nodes) → Kids ms ks → Written Calm (flatten None xs) (tidy ns) → Kids (ms ++ xs) (ks ⧺ ns)
kids_more {ms} {ks} xs ns k h =
    let w : Written Calm (flatten None ms ++ flatten None xs) (tidy ks ⊕ tidy ns) = children-++ k.are h in
    record { are = rw (flatten-++ None ms xs, tidy-⧺ ks ns) w }

pub kids_same : {ms : List Mark} {ks : Nodes} → Kids ms ks → Kids ms (ks ⧺ done)
kids_same {ms} {ks} k = record { are = rw (tidy-⧺ ks done, tidy-⊕_done ks) k.are }

-- a text behind the children
pub kids_text : {ms : List Mark} {ks : Nodes} {e : Bytes} (s : Bytes) → Kids ms ks → Written Calm e (before s done) → Kids (ms ++ texted e) (ks ⧺ text s done)
kids_text {ms} {ks} {e} s k h = kids_more (texted e) (text s done) k (rw (flatten_texted None e) h)

-- a list that has begun: no item of it yet
pub kids_list : {ms : List Mark} {ks : Nodes} → Kids ms ks → Kids ms (ks ⧺ text [] done)
kids_list {ms} {ks} k = record { are = rw (tidy-⧺ ks (text [] done), tidy-⊕_done ks) k.are }

-- more of a text that stands last
pub kids_word : {ms : List Mark} {e : Bytes} (ks : Nodes) (s t : Bytes) → Kids ms (ks ⧺ text s done) → Written Calm e (before t done) → Kids (ms ++ texted e) (ks ⧺ text (s ++ t) done)
kids_word {ms} {e} ks s t k h =
    let p : tidy (ks ⧺ text s done) ⊕ before t done ≡ tidy (ks ⧺ text (s ++ t) done) = ap (λ x. x ⊕ before t done) (tidy-⧺ ks (text s done)) ∙ (⊕_assoc (tidy ks) (before s done) (before t done) ∙ (ap (λ x. tidy ks ⊕ x) (before-⊕ s done (before t done) ∙ sym (before-++ s t done)) ∙ sym (tidy-⧺ ks (text (s ++ t) done)))) in
    let w : Written Calm (flatten None ms ++ e) (tidy (ks ⧺ text s done) ⊕ before t done) = children-++ k.are h in
    let v : Written Calm (flatten None ms ++ e) (tidy (ks ⧺ text (s ++ t) done)) = subst (λ (x : Nodes). Written Calm (flatten None ms ++ e) x) p w in
    record { are = rw (flatten-++ None ms (texted e), flatten_texted None e) v }

-- an item behind a space, if one is due
pub gap_word : (w : Bool) {chosen : ℕ → Bool} {s : Bytes} → Lawful TextItem chosen → IsUtf8 s → Written Calm (gap w ++ escaped chosen s) (before (gap w ++ s) done)
gap_word true h u = children-++ space_child (text_child (text_of_item h) u)
gap_word false h u = text_child (text_of_item h) u

pub gap_value : (w : Bool) {chosen : ℕ → Bool} {s : Bytes} → Lawful AttributeItem chosen → IsUtf8 s → Written AttValue (gap w ++ escaped chosen s) (gap w ++ s)
gap_value true h u = value-++ space_value (string_value (attribute_of_item h) u)
gap_value false h u = string_value (attribute_of_item h) u

-- an element behind the children
pub kids_element : {ms : List Mark} {ks : Nodes} {t : Tree} (xs : List Mark) → Kids ms ks → Written Element (flatten None xs) t → Kids (ms ++ xs) (ks ⧺ elem t.name t.attrs t.kids done)
kids_element {t = t} xs k h = kids_more xs (elem t.name t.attrs t.kids done) k (element_child h)

-- an empty element, in each form
pub shut_element : (f : EmptyElementHandling) {n a : Bytes} {at : Attributes} → Name n → Written Attribs a at → Written Element (codes "<" ++ (n ++ (a ++ shut f n))) (empty n at)
shut_element SelfClosed h m = slash_element h m
shut_element SelfClosedWithSpace h m = spaced_element h m
shut_element Expanded h m = expanded_element h m

pub empty_reads : (f : EmptyElementHandling) (g : Bool) (d : ℕ) {n : Bytes} → Name n → Written Element (flatten None (less_than g d ∷ empty_element f n)) (empty n [])
empty_reads f g d {n} h = rw (plain_less g d, flatten_tagged None (n ++ shut f n)) (shut_element f h no_attribs)

pub around_reads : (g : Bool) (d : ℕ) (s : Bytes) {n e : Bytes} → Name n → Written Calm e (before s done) → Written Element (flatten None (less_than g d ∷ text_element n e)) (record { name = n; attrs = []; kids = before s done })
around_reads g d s {n} {e} h w =
    let x = codes "</" ++ (n ++ codes ">") in
    let q : flatten None (text_element n e) ≡ n ++ (codes ">" ++ (e ++ x)) = flatten-++ None (tagged (n ++ codes ">")) (texted e ++ tagged x) ∙ (ap (λ y. y ++ flatten None (texted e ++ tagged x)) (flatten_tagged None (n ++ codes ">")) ∙ (ap (λ y. (n ++ codes ">") ++ y) (flatten-++ None (texted e) (tagged x) ∙ (ap (λ y. y ++ flatten None (tagged x)) (flatten_texted None e) ∙ ap (λ y. e ++ y) (flatten_tagged None x))) ∙ append_assoc n (codes ">") (e ++ x))) in
    rw (plain_less g d, q) (full_element h no_attribs w)

-- a closed record
module _ (f : EmptyElementHandling) (d : ℕ) (m : Mark) (start : bytes_of_mark None m ≡ codes "<") (l : Level) where
  abbrev with_kids : List Mark → Level
  with_kids ms = record { under = l.under; name = l.name; attrs = l.attrs; body = record { kids = ms; flag = l.body.flag; wordy = l.body.wordy } }

  closed_kids : {at : Attributes} (ks : Nodes) → Name l.name → Written Attribs l.attrs at → (ms : List Mark) → Kids ms ks → Written Element (flatten None (closed_record f d m (with_kids ms))) (record { name = l.name; attrs = at; kids = tidy ks })
  closed_kids {at} ks h a [] k =
      let e : tidy ks ≡ done = one_content (read_calm k.are.reads) content_end in
      let w : Written Element (codes "<" ++ (l.name ++ (l.attrs ++ shut f l.name))) (record { name = l.name; attrs = at; kids = tidy ks }) = rw e (shut_element f h a) in
      rw (start, flatten_tagged None (l.name ++ (l.attrs ++ shut f l.name))) w
  closed_kids {at} ks h a (x ∷ ms) k =
      let t = l.name ++ (l.attrs ++ codes ">") in
      let z = codes "/" ++ (l.name ++ codes ">") in
      let c = flatten None (x ∷ ms) in
      let p : flatten None (end_tag d (with_kids (x ∷ ms))) ≡ codes "<" ++ z = ap (λ y. y ++ flatten None (tagged z)) (plain_less _ d) ∙ ap (λ y. codes "<" ++ y) (flatten_tagged None z) in
      let q : flatten None (tagged t ++ ((x ∷ ms) ++ end_tag d (with_kids (x ∷ ms)))) ≡ t ++ (c ++ (codes "<" ++ z)) = flatten-++ None (tagged t) ((x ∷ ms) ++ end_tag d (with_kids (x ∷ ms))) ∙ (ap (λ y. y ++ flatten None ((x ∷ ms) ++ end_tag d (with_kids (x ∷ ms)))) (flatten_tagged None t) ∙ ap (λ y. t ++ y) (flatten-++ None (x ∷ ms) (end_tag d (with_kids (x ∷ ms))) ∙ ap (λ y. c ++ y) p)) in
      let r : t ++ (c ++ (codes "<" ++ z)) ≡ l.name ++ (l.attrs ++ (codes ">" ++ (c ++ (codes "<" ++ z)))) = append_assoc l.name (l.attrs ++ codes ">") (c ++ (codes "<" ++ z)) ∙ ap (λ y. l.name ++ y) (append_assoc l.attrs (codes ">") (c ++ (codes "<" ++ z))) in
      let s : flatten None (closed_record f d m (with_kids (x ∷ ms))) ≡ codes "<" ++ (l.name ++ (l.attrs ++ (codes ">" ++ (c ++ (codes "<" ++ z))))) = ap (λ y. y ++ flatten None (tagged t ++ ((x ∷ ms) ++ end_tag d (with_kids (x ∷ ms))))) start ∙ ap (λ y. codes "<" ++ y) (q ∙ r) in
      subst (λ (y : Bytes). Written Element y (record { name = l.name; attrs = at; kids = tidy ks })) (sym s) (full_element h a k.are)

  pub closed_reads : {at : Attributes} {ks : Nodes} → Name l.name → Written Attribs l.attrs at → Kids l.body.kids ks → Written Element (flatten None (closed_record f d m l)) (record { name = l.name; attrs = at; kids = tidy ks })
  closed_reads {at} {ks} h a k = closed_kids ks h a l.body.kids k
