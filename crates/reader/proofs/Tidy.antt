-- Rows of nodes in which no two texts are neighbours: how they are joined so that this stays so.
use Rattle.std.proofs.Common.{◌≡◌, ℕ, [], ◌∷◌, ◌++◌, refl, ap, ◌∙◌}
use Rattle.reader.specs.Trees.{Bytes, Nodes, done, text, elem, Tree, ◌▹◌, before, tidy, ◌⧺◌}

infixr 60 ◌⊕◌
-- two rows one after the other, a text at the seam joined to the text behind it
abbrev pub ◌⊕◌ : Nodes → Nodes → Nodes
done ⊕ ms = ms
(text s ns) ⊕ ms = before s (ns ⊕ ms)
(elem n at ks ns) ⊕ ms = elem n at ks (ns ⊕ ms)

-- a row of one element
abbrev pub alone : Tree → Nodes
alone t = elem t.name t.attrs t.kids done

-- a byte or a text in front stays in front
pub byte-⊕ : (b : ℕ) (ns ms : Nodes) → (b ▹ ns) ⊕ ms ≡ b ▹ (ns ⊕ ms)
byte-⊕ b done ms = refl
byte-⊕ b (text s ns) ms = refl
byte-⊕ b (elem n at ks ns) ms = refl

pub before-⊕ : (s : Bytes) (ns ms : Nodes) → before s ns ⊕ ms ≡ before s (ns ⊕ ms)
before-⊕ [] ns ms = refl
before-⊕ (b ∷ s) ns ms = byte-⊕ b (before s ns) ms ∙ ap (λ x. b ▹ x) (before-⊕ s ns ms)

-- a text in two parts
pub before-++ : (s t : Bytes) (ns : Nodes) → before (s ++ t) ns ≡ before s (before t ns)
before-++ [] t ns = refl
before-++ (b ∷ s) t ns = ap (λ x. b ▹ x) (before-++ s t ns)

pub ⊕_assoc : (ls ns ms : Nodes) → (ls ⊕ ns) ⊕ ms ≡ ls ⊕ (ns ⊕ ms)
⊕_assoc done ns ms = refl
⊕_assoc (text s ls) ns ms = before-⊕ s (ls ⊕ ns) ms ∙ ap (before s) (⊕_assoc ls ns ms)
⊕_assoc (elem n at ks ls) ns ms = ap (elem n at ks) (⊕_assoc ls ns ms)

-- to tidy a row of two parts, tidy each and join them
pub tidy-⧺ : (ns ms : Nodes) → tidy (ns ⧺ ms) ≡ tidy ns ⊕ tidy ms
tidy-⧺ done ms = refl
tidy-⧺ (text s ns) ms = ap (before s) (tidy-⧺ ns ms) ∙ rw before-⊕
tidy-⧺ (elem n at ks ns) ms = ap (elem n at ks) (tidy-⧺ ns ms)

pub ⧺_assoc : (ls ns ms : Nodes) → (ls ⧺ ns) ⧺ ms ≡ ls ⧺ (ns ⧺ ms)
⧺_assoc done ns ms = refl
⧺_assoc (text s ls) ns ms = ap (text s) (⧺_assoc ls ns ms)
⧺_assoc (elem n at ks ls) ns ms = ap (elem n at ks) (⧺_assoc ls ns ms)

-- behind a tidy row nothing more changes nothing
pub tidy-⊕_done : (ns : Nodes) → tidy ns ⊕ done ≡ tidy ns
tidy-⊕_done done = refl
tidy-⊕_done (text s ns) = before-⊕ s (tidy ns) done ∙ ap (before s) (tidy-⊕_done ns)
tidy-⊕_done (elem n at ks ns) = ap (elem n at ks) (tidy-⊕_done ns)
