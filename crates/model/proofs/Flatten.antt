-- The layout of marks in a row, piece by piece.
use Rattle.std.proofs.Common.{◌≡◌, ℕ, Bool, true, false, List, [], ◌∷◌, ◌++◌, None, codes, Option, sym, refl, ap, ◌∙◌, append_assoc}
use Rattle.style.specs.declared.indentation.Indentation.{Indentation}
use Rattle.reader.specs.Trees.{Bytes}
use Rattle.model.specs.Marks.{Mark, bytes_of_mark, flatten, tagged, texted, less_than}

pub flatten-++ : (i : Option Indentation) (xs ys : List Mark) → flatten i (xs ++ ys) ≡ flatten i xs ++ flatten i ys
flatten-++ i [] ys = refl
flatten-++ i (x ∷ xs) ys = ap (λ z. bytes_of_mark i x ++ z) (flatten-++ i xs ys) ∙ sym (append_assoc (bytes_of_mark i x) (flatten i xs) (flatten i ys))

pub flatten_tagged : (i : Option Indentation) (s : Bytes) → flatten i (tagged s) ≡ s
flatten_tagged i [] = refl
flatten_tagged i (b ∷ s) = ap (λ z. b ∷ z) (flatten_tagged i s)

pub flatten_texted : (i : Option Indentation) (s : Bytes) → flatten i (texted s) ≡ s
flatten_texted i [] = refl
flatten_texted i (b ∷ s) = ap (λ z. b ∷ z) (flatten_texted i s)

-- unindented, the `<` of a tag is just that
pub plain_less : (g : Bool) (d : ℕ) → bytes_of_mark None (less_than g d) ≡ codes "<"
plain_less true d = refl
plain_less false d = refl
