-- What escaped strings, attributes, tags and rows of records are read as, by any lawful choice of what is escaped.
use Rattle.std.proofs.Common.{◌≡◌, ℕ, Bool, true, false, eqb, List, [], ◌∷◌, ◌++◌, codes, IsUtf8, refl, append_assoc, arith}
use Rattle.std.proofs.lemmas.List.{append-nil}
use Rattle.std.proofs.lemmas.Bool.{cond_both, eqb-false}
use Rattle.xml.specs.declared.escape.Use.TheVariants.{Text, Attribute, TextItem, AttributeItem}
use Rattle.xml.specs.Names.{Name}
use Rattle.xml.specs.Escaping.{asked, must, replacement, piece, escaped, Lawful}
use Rattle.xml.specs.Reading.{AttValue, value_end, value_raw, value_reference, value_byte}
use Rattle.xml.specs.Levels.{of_all}
use Rattle.xml.proofs.Nine.{nine_reference}
use Rattle.xml.proofs.Free.{apart, unasked}
use Rattle.xml.proofs.Escapes.{lines_same, value_back}
use Rattle.reader.specs.Trees.{Bytes, Attributes, Nodes, done, Tree, empty, ◌▹◌, before}
use Rattle.reader.specs.Reader.{Attribs, attribs_end, attribs_more, Element, empty_tag, spaced_empty_tag, tags, Row, row_end, row_more, Reads, ReadsExactly}
use Rattle.reader.proofs.Tidy.{◌⊕◌, alone}
use Rattle.reader.proofs.OneReading.{one_reading}
use Rattle.reader.proofs.Sound.{Sound, sound-++, sound_bytes, sound_name, sound_escaped, Written}
use Rattle.reader.proofs.Calm.{Calm, calm_end, calm_raw, calm_reference, calm_element, calm-++, read_calm}

-- what an item's use asks for, a string's use asks for less of
pub text_of_item : {chosen : ℕ → Bool} → Lawful TextItem chosen → Lawful Text chosen
text_of_item {chosen} l = record { within = l.within; enough = λ b e. l.enough b (of_all (asked TextItem) (must Text) b refl e) }

pub attribute_of_item : {chosen : ℕ → Bool} → Lawful AttributeItem chosen → Lawful Attribute chosen
attribute_of_item {chosen} l =
    record { within = l.within; enough = λ b e. l.enough b (of_all (asked AttributeItem) (must Attribute) b refl e) }

-- two parts one after the other, by any rule that joins them
written-++ : {A : Type 0} {R : Bytes → A → Type 0} {a b : Bytes} {x y z : A} → (R a x → R b y → R (a ++ b) z) → Written R a x → Written R b y → Written R (a ++ b) z
written-++ join h k = record { reads = join h.reads k.reads; sound = sound-++ h.sound k.sound }

-- among children

pub no_children : Written Calm [] done
no_children = record { reads = calm_end; sound = sound_bytes [] refl }

pub children-++ : {a b : Bytes} {ns ms : Nodes} → Written Calm a ns → Written Calm b ms → Written Calm (a ++ b) (ns ⊕ ms)
children-++ h k = written-++ calm-++ h k

-- the space between two items of a list
pub space_child : Written Calm (codes " ") (before (codes " ") done)
space_child = record { reads = calm_raw refl calm_end; sound = sound_bytes (codes " ") refl }

pub text_child : {chosen : ℕ → Bool} {s : Bytes} → Lawful Text chosen → IsUtf8 s → Written Calm (escaped chosen s) (before s done)
text_child {chosen} {s} l h = record { reads = calm s; sound = sound_escaped l h }
  where
    byte : (b : ℕ) {c : Bytes} {ns : Nodes} → Calm c ns → Calm (piece chosen b ++ c) (b ▹ ns)
    byte b {c} {ns} k = cond_both (chosen b) (replacement b) (b ∷ []) (λ p. Calm (p ++ c) (b ▹ ns)) (λ e. calm_reference (nine_reference b (l.within b e)) k) (λ e. calm_raw (unasked l b e) k)

    calm : (s : Bytes) → Calm (escaped chosen s) (before s done)
    calm [] = calm_end
    calm (b ∷ s) = byte b (calm s)

-- in a value

pub no_value : Written AttValue [] []
no_value = record { reads = value_end; sound = sound_bytes [] refl }

attvalue-++ : {a b v w : Bytes} → AttValue a v → AttValue b w → AttValue (a ++ b) (v ++ w)
attvalue-++ value_end k = k
attvalue-++ (value_raw p q r h) k = value_raw p q r (attvalue-++ h k)
attvalue-++ (value_reference r h) k = rw append_assoc (value_reference r (attvalue-++ h k))

pub value-++ : {a b v w : Bytes} → Written AttValue a v → Written AttValue b w → Written AttValue (a ++ b) (v ++ w)
value-++ h k = written-++ attvalue-++ h k

pub space_value : Written AttValue (codes " ") (codes " ")
space_value = record { reads = value_raw (omega arith) (omega arith) (omega arith) value_end; sound = sound_bytes (codes " ") refl }

-- a byte that no attribute asks to escape says itself
pub value_byte_same : {b : ℕ} {c v : Bytes} → asked Attribute b ≡ false → AttValue c v → AttValue (b ∷ c) (b ∷ v)
value_byte_same {b} {c} {v} e k =
    let other : (x : ℕ) → asked Attribute x ≡ true → eqb b x ≡ false = λ x. apart b x (must Attribute) e in
    let r : AttValue (b ∷ c) (value_byte b ∷ v) = value_raw (eqb-false b 60 (other 60 refl)) (eqb-false b 38 (other 38 refl)) (eqb-false b 34 (other 34 refl)) k in
    rw (other 9 refl, other 10 refl) at r

pub string_value : {chosen : ℕ → Bool} {s : Bytes} → Lawful Attribute chosen → IsUtf8 s → Written AttValue (escaped chosen s) s
string_value {s} l h = record { reads = value_back l refl s; sound = sound_escaped l h }

-- in a tag

pub no_attribs : Written Attribs [] []
no_attribs = record { reads = attribs_end; sound = sound_bytes [] refl }

attribs_join : {a b : Bytes} {at more : Attributes} → Attribs a at → Attribs b more → Attribs (a ++ b) (at ++ more)
attribs_join attribs_end k = k
attribs_join {b} (attribs_more {n} {raw} {a} h v m) k =
    rw (append_assoc n (codes "=\"" ++ (raw ++ (codes "\"" ++ a))) b, append_assoc raw (codes "\"" ++ a) b) (attribs_more h v (attribs_join m k))

pub attribs-++ : {a b : Bytes} {at more : Attributes} → Written Attribs a at → Written Attribs b more → Written Attribs (a ++ b) (at ++ more)
attribs-++ h k = written-++ attribs_join h k

-- one attribute, ` n="raw"`
pub attrib : {n raw v : Bytes} → Name n → Written AttValue raw v → Written Attribs (codes " " ++ (n ++ (codes "=\"" ++ (raw ++ codes "\"")))) ((n, v) ∷ [])
attrib h v =
    record { reads = attribs_more h v.reads attribs_end; sound = sound-++ (sound_bytes (codes " ") refl) (sound-++ (sound_name h) (sound-++ (sound_bytes (codes "=\"") refl) (sound-++ v.sound (sound_bytes (codes "\"") refl)))) }

-- elements

module _ {n a : Bytes} {at : Attributes} (h : Name n) (m : Written Attribs a at) where
  -- `<n` and the attributes, and then the rest of the element
  sound_element : {rest : Bytes} → Sound rest → Sound (codes "<" ++ (n ++ (a ++ rest)))
  sound_element k = sound-++ (sound_bytes (codes "<") refl) (sound-++ (sound_name h) (sound-++ m.sound k))

  -- `<n/>`, `<n />` and `<n></n>`
  pub slash_element : Written Element (codes "<" ++ (n ++ (a ++ codes "/>"))) (empty n at)
  slash_element = record { reads = empty_tag h m.reads; sound = sound_element (sound_bytes (codes "/>") refl) }

  pub spaced_element : Written Element (codes "<" ++ (n ++ (a ++ codes " />"))) (empty n at)
  spaced_element = record { reads = spaced_empty_tag h m.reads; sound = sound_element (sound_bytes (codes " />") refl) }

  pub full_element : {c : Bytes} {ns : Nodes} → Written Calm c ns → Written Element (codes "<" ++ (n ++ (a ++ (codes ">" ++ (c ++ (codes "</" ++ (n ++ codes ">"))))))) (record { name = n; attrs = at; kids = ns })
  full_element k =
      record { reads = tags h m.reads (read_calm k.reads); sound = sound_element (sound-++ (sound_bytes (codes ">") refl) (sound-++ k.sound (sound-++ (sound_bytes (codes "</") refl) (sound-++ (sound_name h) (sound_bytes (codes ">") refl))))) }

  pub expanded_element : Written Element (codes "<" ++ (n ++ (a ++ (codes "></" ++ (n ++ codes ">"))))) (empty n at)
  expanded_element = full_element no_children

-- an element as the only child
pub element_child : {e : Bytes} {t : Tree} → Written Element e t → Written Calm e (alone t)
element_child h = record { reads = rw append-nil at (calm_element h.reads calm_end); sound = h.sound }

-- rows of records

pub no_rows : Written Row [] []
no_rows = record { reads = row_end; sound = sound_bytes [] refl }

row_join : {a b : Bytes} {ts us : List Tree} → Row a ts → Row b us → Row (a ++ b) (ts ++ us)
row_join row_end k = k
row_join (row_more h r) k = rw append_assoc (row_more h (row_join r k))

pub row-++ : {a b : Bytes} {ts us : List Tree} → Written Row a ts → Written Row b us → Written Row (a ++ b) (ts ++ us)
row-++ h k = written-++ row_join h k

pub row_one : {e : Bytes} {t : Tree} → Written Element e t → Written Row e (t ∷ [])
row_one h = record { reads = rw append-nil at (row_more h.reads row_end); sound = h.sound }

-- the reader reads such a row
pub row_reads : {bs : Bytes} {ts : List Tree} → Written Row bs ts → Reads bs ts
row_reads {bs} {ts} h = (h.sound.utf8, rw (lines_same bs h.sound.returnless) h.reads)

pub row_reads_exactly : {bs : Bytes} {ts : List Tree} → Written Row bs ts → ReadsExactly bs ts
row_reads_exactly {bs} {ts} h = record { reads = row_reads h; only = λ us k. one_reading bs us ts k (row_reads h) }
