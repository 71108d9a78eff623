-- What a list says as its items come, one by one.
use Rattle.std.proofs.Common.{◌≡◌, true, false, not, List, [], ◌∷◌, ◌++◌, codes, sym, refl, ap, ◌∙◌, append_assoc}
use Rattle.std.proofs.lemmas.Bool.{true≢false, false≢true}
use Rattle.reader.specs.Trees.{Bytes}
use Rattle.model.specs.Strings.{null}
use Rattle.model.specs.Step.{gap}
use Rattle.model.specs.Says.{spaced, list_text}

-- an empty item says nothing
pub list_same : (ws : List Bytes) (s : Bytes) → null s ≡ true → list_text (ws ++ (s ∷ [])) ≡ list_text ws
list_same [] [] e = refl
list_same [] (b ∷ s) e = absurd (false≢true e)
list_same (t ∷ ws) s e = ap (spaced t) (list_same ws s e)

-- any other comes behind one space, where there is something before it
spaced_more : (t x y : Bytes) → null y ≡ false → spaced t (x ++ (gap (not (null x)) ++ y)) ≡ spaced t x ++ (gap (not (null (spaced t x))) ++ y)
spaced_more [] x y e = refl
spaced_more (b ∷ t) [] [] e = absurd (true≢false e)
spaced_more (b ∷ t) [] (c ∷ y) e = refl
spaced_more (b ∷ t) (c ∷ x) y e = sym (append_assoc (b ∷ t) (codes " " ++ (c ∷ x)) (codes " " ++ y))

pub list_more : (ws : List Bytes) (s : Bytes) → null s ≡ false → list_text (ws ++ (s ∷ [])) ≡ list_text ws ++ (gap (not (null (list_text ws))) ++ s)
list_more [] [] e = absurd (true≢false e)
list_more [] (b ∷ s) e = refl
list_more (t ∷ ws) s e = ap (spaced t) (list_more ws s e) ∙ spaced_more t (list_text ws) s e

-- and then there is something
pub list_there : (ws : List Bytes) (s : Bytes) → null s ≡ false → null (list_text (ws ++ (s ∷ []))) ≡ false
list_there ws s e = ap null (list_more ws s e) ∙ go (list_text ws)
  where
    go : (x : Bytes) → null (x ++ (gap (not (null x)) ++ s)) ≡ false
    go [] = e
    go (b ∷ x) = refl
