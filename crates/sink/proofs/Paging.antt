-- A byte of a page is a byte of the run that the pages are. Assumes nothing.
use Rattle.std.proofs.Common.{◌≡◌, ℕ, zero, suc, ◌+◌, ◌-◌, ◌*◌, ◌<◌, List, [], ◌∷◌, ◌++◌, length, get_or, set, sym, refl, ap, ◌∙◌, arith, length-append}
use Rattle.std.proofs.lemmas.List.{set-append_left, set-append_right, get_or_append_left, get_or-append_right}
use Rattle.sink.specs.declared.page.Page.{Page}
use Rattle.sink.specs.Pages.{flat}

pub flat_length : (ps : List Page) → length (flat ps) ≡ length ps * 256
flat_length [] = refl
flat_length (p ∷ ps) = omega (arith, length-append p.bytes (flat ps), p.size, flat_length ps)

pub flat_get : (ps : List Page) (i j : ℕ) (d : Page) → i < length ps → j < 256 → get_or (flat ps) (i * 256 + j) 0 ≡ get_or (get_or ps i d).bytes j 0
flat_get [] i j d h k = absurd (omega arith)
flat_get (p ∷ ps) zero j d h k =
    let at : 0 * 256 + j ≡ j = omega arith in
    ap (λ n. get_or (p.bytes ++ flat ps) n 0) at ∙ get_or_append_left p.bytes (flat ps) 0 j (omega (arith, p.size))
flat_get (p ∷ ps) (suc i) j d h k =
    let at : (suc i * 256 + j) - 256 ≡ i * 256 + j = omega arith in
    get_or-append_right p.bytes (flat ps) 256 (suc i * 256 + j) 0 p.size (omega arith) ∙ ap (λ n. get_or (flat ps) n 0) at ∙ flat_get ps i j d (omega arith) k

pub flat_set : (ps : List Page) (i j b : ℕ) (q d : Page) → i < length ps → j < 256 → q.bytes ≡ set (get_or ps i d).bytes j b → flat (set ps i q) ≡ set (flat ps) (i * 256 + j) b
flat_set [] i j b q d h k e = absurd (omega arith)
flat_set (p ∷ ps) zero j b q d h k e =
    let at : j ≡ 0 * 256 + j = omega arith in
    ap (λ l. l ++ flat ps) e ∙ sym (set-append_left p.bytes (flat ps) j b (omega (arith, p.size))) ∙ ap (λ n. set (p.bytes ++ flat ps) n b) at
flat_set (p ∷ ps) (suc i) j b q d h k e =
    let at : (suc i * 256 + j) - 256 ≡ i * 256 + j = omega arith in
    ap (λ l. p.bytes ++ l) (flat_set ps i j b q d (omega arith) k e ∙ ap (λ n. set (flat ps) n b) (sym at)) ∙ sym (set-append_right p.bytes (flat ps) 256 (suc i * 256 + j) b p.size (omega arith))
