-- The part in use of a slice under each store, and what lies past it. Assumes nothing.
use Rattle.std.proofs.Common.{◌≡◌, ℕ, ◌+◌, ◌-◌, ◌<◌, ◌≤◌, List, [], ◌∷◌, ◌++◌, length, get_or, take, drop, set, sym, refl, ap, ◌∙◌, arith, rules}
use Rattle.std.proofs.lemmas.List.{same_lists, places, length-append, length-set, length-take, length-take-le, take-take, take_at, take_all, drop_at, take_more_set, set_at, get_or_at, get_or-take, drop-set-lt, drop-drop, get_or-set_same}
use Rattle.std.proofs.lemmas.Slice.{between_is}
use Rattle.std.proofs.lemmas.Bool.{cases_eq}
use Rattle.memory.specs.Opened.{opened}
use Rattle.memory.proofs.Laying.{take-laid, drop-laid, length-laid}
use Rattle.memory.proofs.Opening.{take-opened, drop-opened, length-opened}
use Rattle.engine.specs.Memory.{Buf, grown}
use Rattle.engine.specs.Lays.{Front, Past, Begins, Nested}

pub front_length : {A : Type 0} (b : Buf A) (xs : List A) → Front b xs → b.used ≡ length xs
front_length b xs f = sym (length-take-le b.used b.all f.fits) ∙ ap length f.is

-- the list may be written in another way
pub front_as : {A : Type 0} (b : Buf A) (xs ys : List A) → xs ≡ ys → Front b xs → Front b ys
front_as b xs ys e f = record { fits = f.fits; is = f.is ∙ e }

pub front_grown : (b : Buf ℕ) (xs s : List ℕ) → b.used + length s ≤ length b.all → Front b xs → Front (grown b s) (xs ++ s)
front_grown b xs s h f =
    record { fits = omega (arith, length-laid b.all s b.used h); is = take-laid b.all s b.used h ∙ ap (λ x. x ++ s) f.is }

-- the used part, in two
pub front_first : {A : Type 0} (b : Buf A) (xs ys : List A) (at : ℕ) → at ≡ length xs → Front b (xs ++ ys) → take at b.all ≡ xs
front_first b xs ys at e f =
    let n = front_length b (xs ++ ys) f in
    let m = length-append xs ys in
    sym (take-take at b.used b.all (omega (arith, n, m))) ∙ ap (take at) f.is ∙ take_at xs ys at (sym e)

pub front_second : {A : Type 0} (b : Buf A) (xs ys : List A) (at : ℕ) → at ≡ length xs → Front b (xs ++ ys) → take (b.used - at) (drop at b.all) ≡ ys
front_second b xs ys at e f = between_is b.all at b.used ∙ ap (drop at) f.is ∙ drop_at xs ys at (sym e)

pub front_opened : (b : Buf ℕ) (xs ys s : List ℕ) (at : ℕ) → at ≡ length xs → b.used + length s ≤ length b.all → Front b (xs ++ ys) → Front (record b { all = opened b.all at b.used s; used = b.used + length s }) (xs ++ (s ++ ys))
front_opened b xs ys s at e h f =
    let n = front_length b (xs ++ ys) f in
    let m = length-append xs ys in
    let low : at ≤ b.used = omega (arith, n, m) in
    record {
      fits = omega (arith, length-opened b.all s at b.used low h);
      is = take-opened b.all s at b.used low h ∙ ap (λ x. x ++ (s ++ take (b.used - at) (drop at b.all))) (front_first b xs ys at e f) ∙ ap (λ x. xs ++ (s ++ x)) (front_second b xs ys at e f);
    }

pub front_push : {A : Type 0} (b : Buf A) (xs : List A) (f : A) → b.used < length b.all → Front b xs → Front (record b { all = set b.all b.used f; used = b.used + 1 }) (xs ++ (f ∷ []))
front_push b xs f h k =
    record { fits = omega (arith, length-set b.all b.used f); is = take_more_set b.all b.used f h ∙ ap (λ x. x ++ (f ∷ [])) k.is }

-- a store below the end of the used part
take_set_below : {A : Type 0} (xs : List A) (n k : ℕ) (y : A) → k < n → n ≤ length xs → take n (set xs k y) ≡ set (take n xs) k y
take_set_below xs n k y a b = same_lists _ _ (search (rules, places)) (λ i d h. grind (arith, places, get_or-set_same, cases_eq i k))

pub front_set : {A : Type 0} (b : Buf A) (xs : List A) (f g : A) (ys : List A) (k : ℕ) → k ≡ length xs → Front b (xs ++ (f ∷ ys)) → Front (record b { all = set b.all k g; used = b.used }) (xs ++ (g ∷ ys))
front_set b xs f g ys k e h =
    let n = front_length b (xs ++ (f ∷ ys)) h in
    let m = length-append xs (f ∷ ys) in
    record {
      fits = omega (arith, length-set b.all k g, h.fits);
      is = take_set_below b.all b.used k g (omega (arith, n, m)) h.fits ∙ ap (λ x. set x k g) h.is ∙ set_at xs f ys g k (sym e);
    }

pub front_get : {A : Type 0} (b : Buf A) (xs : List A) (f : A) (ys : List A) (k : ℕ) (d : A) → k ≡ length xs → Front b (xs ++ (f ∷ ys)) → get_or b.all k d ≡ f
front_get b xs f ys k d e h =
    let n = front_length b (xs ++ (f ∷ ys)) h in
    let m = length-append xs (f ∷ ys) in
    sym (get_or-take b.used b.all k d (omega (arith, n, m))) ∙ ap (λ x. get_or x k d) h.is ∙ get_or_at xs f ys d k (sym e)

-- less of it is in use
pub front_cut : {A : Type 0} (b : Buf A) (xs ys : List A) (k : ℕ) → k ≡ length ys → take (length ys) xs ≡ ys → Front b xs → Front (record b { used = k }) ys
front_cut b xs ys k e t f =
    let n = front_length b xs f in
    let l : length (take (length ys) xs) ≡ length ys = ap length t in
    let m = length-take (length ys) xs in
    let low : k ≤ b.used = omega (arith, n, l, m) in
    record { fits = omega (arith, low, f.fits); is = sym (take-take k b.used b.all low) ∙ ap (take k) f.is ∙ ap (λ i. take i xs) e ∙ t }

pub begins_self : (xs : List ℕ) → Begins xs xs
begins_self xs = take_all (length xs) xs (omega arith)

pub begins_more : (xs ys : List ℕ) → Begins xs (xs ++ ys)
begins_more xs ys = take_at xs ys (length xs) refl

pub begins_within : (zs ys xs : List ℕ) → Begins zs ys → Begins ys xs → Begins zs xs
begins_within zs ys xs p q =
    let n = length-take (length zs) ys in
    let l = ap length p in
    sym (take-take (length zs) (length ys) xs (omega (arith, n, l))) ∙ ap (take (length zs)) q ∙ p

-- what keeps the first of nested stacks keeps the rest
pub nested_rest : (xs ys : List ℕ) (rest : List (List ℕ)) → Begins ys xs → Nested ys rest → Nested xs rest
nested_rest xs ys [] b n = tt
nested_rest xs ys (zs ∷ rest) b n = (begins_within zs ys xs n.0 b, n.1)

pub past_same : {A : Type 0} (b : Buf A) → Past b b
past_same b = record { size = refl; past = refl; rest = refl; reference = refl }

pub past_cut : {A : Type 0} (b : Buf A) (k : ℕ) → Past b (record b { used = k })
past_cut b k = record { size = refl; past = refl; rest = refl; reference = refl }

pub past_grown : (b : Buf ℕ) (s : List ℕ) → b.used + length s ≤ length b.all → Past b (grown b s)
past_grown b s h = record { size = length-laid b.all s b.used h; past = drop-laid b.all s b.used h; rest = refl; reference = refl }

pub past_opened : (b : Buf ℕ) (s : List ℕ) (at : ℕ) → at ≤ b.used → b.used + length s ≤ length b.all → Past b (record b { all = opened b.all at b.used s; used = b.used + length s })
past_opened b s at l h = record { size = length-opened b.all s at b.used l h; past = drop-opened b.all s at b.used l h; rest = refl; reference = refl }

pub past_set : {A : Type 0} (b : Buf A) (k u : ℕ) (g : A) → k < u → Past b (record b { all = set b.all k g; used = u })
past_set b k u g h = record { size = length-set b.all k g; past = drop-set-lt u b.all k g h; rest = refl; reference = refl }

-- one step after another, while the part in use does not become smaller
pub past_then : {A : Type 0} (b c d : Buf A) → c.used ≤ d.used → Past b c → Past c d → Past b d
past_then b c d h p q =
    let e : c.used + (d.used - c.used) ≡ d.used = omega arith in
    let more : (l : List _) → drop d.used l ≡ drop (d.used - c.used) (drop c.used l) = λ l. ap (λ n. drop n l) (sym e) ∙ sym (drop-drop (d.used - c.used) c.used l) in
    record { size = q.size ∙ p.size; past = q.past ∙ more c.all ∙ ap (drop (d.used - c.used)) p.past ∙ sym (more b.all); rest = q.rest ∙ p.rest; reference = q.reference ∙ p.reference }
