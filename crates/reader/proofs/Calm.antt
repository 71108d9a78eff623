-- Content without a raw > in it. Unlike content as such it needs no look ahead for ]]>, so two parts make a whole.
use Rattle.std.proofs.Common.{◌≡◌, ℕ, false, eqb, [], ◌∷◌, ◌++◌, codes, sym, refl, append_assoc}
use Rattle.std.proofs.lemmas.Bool.{and_left, and_right, eqb-false, ne_eqb}
use Rattle.xml.specs.declared.escape.Use.TheVariants.{Text}
use Rattle.xml.specs.Escaping.{asked, must}
use Rattle.xml.specs.Reading.{Reference, begins}
use Rattle.reader.specs.Trees.{Bytes, Nodes, done, elem, Tree, ◌▹◌}
use Rattle.reader.specs.Reader.{Element, empty_tag, spaced_empty_tag, tags, Content, content_end, content_raw, content_reference, content_element}
use Rattle.reader.proofs.Tidy.{◌⊕◌, byte-⊕}
use Rattle.xml.proofs.Free.{apart}
use Rattle.reader.proofs.Sound.{reference_mild}

-- as `Content`, with none of the bytes raw that are always escaped in a text
pub data Calm : Bytes → Nodes → Type 0 where
  calm_end : Calm [] done
  calm_raw : {b : ℕ} {c : Bytes} {ns : Nodes} → asked Text b ≡ false → Calm c ns → Calm (b ∷ c) (b ▹ ns)
  calm_reference : {r c : Bytes} {b : ℕ} {ns : Nodes} → Reference r b → Calm c ns → Calm (r ++ c) (b ▹ ns)
  calm_element : {e c : Bytes} {t : Tree} {ns : Nodes} → Element e t → Calm c ns → Calm (e ++ c) (elem t.name t.attrs t.kids ns)

pub calm-++ : {a b : Bytes} {ns ms : Nodes} → Calm a ns → Calm b ms → Calm (a ++ b) (ns ⊕ ms)
calm-++ calm_end k = k
calm-++ (calm_raw h p) k = rw byte-⊕ (calm_raw h (calm-++ p k))
calm-++ (calm_reference h p) k = rw (append_assoc, byte-⊕) (calm_reference h (calm-++ p k))
calm-++ (calm_element h p) k = rw append_assoc (calm_element h (calm-++ p k))

-- no > and no ]> stand at the beginning
abbrev Harmless : Bytes → Type 0
Harmless c = (begins (codes ">") c ≡ false) × (begins (codes "]>") c ≡ false)

element_harmless : {e : Bytes} {t : Tree} → Element e t → (c : Bytes) → Harmless (e ++ c)
element_harmless (empty_tag h m) c = (refl, refl)
element_harmless (spaced_empty_tag h m) c = (refl, refl)
element_harmless (tags h m k) c = (refl, refl)

reference_harmless : {r : Bytes} {b : ℕ} → Reference r b → (c : Bytes) → Harmless (r ++ c)
reference_harmless p c = let k = reference_mild p in rw k.1 (refl, refl)

calm_harmless : {c : Bytes} {ns : Nodes} → Calm c ns → Harmless c
calm_harmless calm_end = (refl, refl)
calm_harmless (calm_raw {b} {c} h p) =
    let k = ne_eqb 62 b (λ e. eqb-false b 62 (apart b 62 (must Text) h refl) (sym e)) in
    (and_left (eqb 62 b) (begins [] c) k, and_right (eqb 93 b) (begins (codes ">") c) (calm_harmless p).0)
calm_harmless (calm_reference {c} h p) = reference_harmless h c
calm_harmless (calm_element {c} h p) = element_harmless h c

-- it is content
pub read_calm : {c : Bytes} {ns : Nodes} → Calm c ns → Content c ns
read_calm calm_end = content_end
read_calm (calm_raw {b} {c} h p) =
    content_raw (eqb-false b 60 (apart b 60 (must Text) h refl)) (eqb-false b 38 (apart b 38 (must Text) h refl)) (and_right (eqb 93 b) (begins (codes "]>") c) (calm_harmless p).1) (read_calm p)
read_calm (calm_reference h p) = content_reference h (read_calm p)
read_calm (calm_element h p) = content_element h (read_calm p)
