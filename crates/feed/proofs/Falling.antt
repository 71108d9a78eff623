-- Lines fall into sections in one way: each section ends where the next `new` stands.
use Rattle.std.proofs.Common.{◌≡◌, List, [], ◌∷◌, ◌++◌, flat_map, Some, None, Option, refl, sym, ap, ap₂, ◌∙◌, subst}
use Rattle.script.specs.declared.line.Numbered.{Numbered}
use Rattle.script.specs.declared.order.Role.TheVariants.{Starts}
use Rattle.script.specs.Order.{role}
use Rattle.feed.specs.Setups.{Each, GoesOn}
use Rattle.feed.specs.Sections.{Section, opening_lines, lines_of, OpensWith, IsLater, InOneWay}

-- a `new` stands first, if any line does
Begun : List Numbered → Type 0
Begun [] = Unit {0}
Begun (n ∷ ns) = role n.line ≡ Starts

-- lines without a `new` end where the first `new` stands
front_same : (xs us ys vs : List Numbered) → Each GoesOn xs → Each GoesOn ys → Begun us → Begun vs → xs ++ us ≡ ys ++ vs → (xs ≡ ys) × (us ≡ vs)
unfolding Begun
front_same [] us [] vs hx hy ha hb e = (refl, e)
front_same [] us (y ∷ ys) vs hx hy ha hb e = absurd (hy.0 (subst Begun e ha))
front_same (x ∷ xs) us [] vs hx hy ha hb e = absurd (hx.0 (subst Begun (sym e) hb))
front_same (x ∷ xs) us (y ∷ ys) vs hx hy ha hb e =
    let first : x ≡ y = cc (e) in
    let left : xs ++ us ≡ ys ++ vs = cc (e) in
    let more = front_same xs us ys vs hx.1 hy.1 ha hb left in
    (ap₂ (λ a b. a ∷ b) first more.0, more.1)

begun_opening : (o : Option Numbered) (xs us : List Numbered) → OpensWith o → Begun ((opening_lines o ++ xs) ++ us)
unfolding Begun
begun_opening None xs us h = absurd h
begun_opening (Some n) xs us h = h

begun_later : (ss : List Section) → Each IsLater ss → Begun (flat_map lines_of ss)
unfolding Begun
begun_later [] h = tt
begun_later (s ∷ ss) h = begun_opening s.opening s.said (flat_map lines_of ss) h.0.0

opening_same : (o p : Option Numbered) (xs us ys vs : List Numbered) → OpensWith o → OpensWith p → Each GoesOn xs → Each GoesOn ys → Begun us → Begun vs → (opening_lines o ++ xs) ++ us ≡ (opening_lines p ++ ys) ++ vs → (o ≡ p) × (xs ≡ ys) × (us ≡ vs)
opening_same None p xs us ys vs ho hp hx hy ha hb e = absurd ho
opening_same (Some n) None xs us ys vs ho hp hx hy ha hb e = absurd hp
opening_same (Some n) (Some m) xs us ys vs ho hp hx hy ha hb e =
    let first : n ≡ m = cc (e) in
    let left : xs ++ us ≡ ys ++ vs = cc (e) in
    let more = front_same xs us ys vs hx hy ha hb left in
    (ap Some first, more.0, more.1)

-- a section that begins with a `new` has a line
not_empty : (o : Option Numbered) (xs us : List Numbered) → OpensWith o → [] ≡ (opening_lines o ++ xs) ++ us → ⊥
not_empty None xs us h e = h
not_empty (Some n) xs us h e = cc (e)

section_same : (s t : Section) → s.opening ≡ t.opening → s.said ≡ t.said → s ≡ t
section_same s t p q = ap (λ o. record { opening = o; said = s.said }) p ∙ ap (λ x. record { opening = t.opening; said = x }) q

later_same : (ss ts : List Section) → Each IsLater ss → Each IsLater ts → flat_map lines_of ss ≡ flat_map lines_of ts → ss ≡ ts
later_same [] [] h k e = refl
later_same [] (t ∷ ts) h k e = absurd (not_empty t.opening t.said (flat_map lines_of ts) k.0.0 e)
later_same (s ∷ ss) [] h k e = absurd (not_empty s.opening s.said (flat_map lines_of ss) h.0.0 (sym e))
later_same (s ∷ ss) (t ∷ ts) h k e =
    let same = opening_same s.opening t.opening s.said (flat_map lines_of ss) t.said (flat_map lines_of ts) h.0.0 k.0.0 h.0.1 k.0.1 (begun_later ss h.1) (begun_later ts k.1) e in
    ap₂ (λ a b. a ∷ b) (section_same s t same.0 same.1) (later_same ss ts h.1 k.1 same.2)

pub in_one_way : InOneWay
in_one_way ns [] ts f k = absurd f.0
in_one_way ns (s ∷ ss) [] f k = absurd k.0
in_one_way ns (s ∷ ss) (t ∷ ts) f k =
    let us = flat_map lines_of ss in
    let vs = flat_map lines_of ts in
    let left : s.said ++ us ≡ t.said ++ vs =
    ap (λ o. (opening_lines o ++ s.said) ++ us) (sym f.0.0) ∙ f.1 ∙ sym k.1 ∙ ap (λ o. (opening_lines o ++ t.said) ++ vs) k.0.0 in
    let same = front_same s.said us t.said vs f.0.1 k.0.1 (begun_later ss f.0.2) (begun_later ts k.0.2) left in
    ap₂ (λ a b. a ∷ b) (section_same s t (f.0.0 ∙ sym k.0.0) same.0) (later_same ss ts f.0.2 k.0.2 same.1)
