-- What holds of each byte of a list holds of any byte among them, and so the levels keep the laws of a rule. Assumes nothing.
use Rattle.std.specs.Prelude.{◌≡◌, ℕ, Bool, true, false, ◌||◌, List, [], ◌∷◌, ◌==◌, refl}
use Rattle.std.specs.List.{AllByRecursion, list_all}
use Rattle.std.proofs.Common.{sym, ap, subst, ⊎_elim}
use Rattle.std.proofs.lemmas.Bool.{and_parts, both_ways, eqb-true, or_cases}
use Rattle.xml.specs.declared.escape.Use.{Use}
use Rattle.xml.specs.declared.escape.Use.TheVariants.{Text, Attribute, TextItem, AttributeItem}
use Rattle.xml.specs.declared.escape.QuoteLevel.{QuoteLevel}
use Rattle.xml.specs.declared.escape.QuoteLevel.TheVariants.{Full, Partial, Minimal}
use Rattle.xml.specs.Escaping.{among, nine, must, asked, added, level_chooses}

pub of_each : (P : ℕ → Type 0) (xs : List ℕ) (b : ℕ) → AllByRecursion P xs → among b xs ≡ true → P b
of_each P [] b each h = absurd (both_ways false refl h)
of_each P (x ∷ xs) b each h = ⊎_elim (λ e. subst P (sym (eqb-true b x e)) each.0) (of_each P xs b each.1) (or_cases (b == x) (among b xs) h)

-- the same of a test, which at a written list computes
pub of_all : (p : ℕ → Bool) (xs : List ℕ) (b : ℕ) → list_all p xs ≡ true → among b xs ≡ true → p b ≡ true
of_all p [] b all h = absurd (both_ways false refl h)
of_all p (x ∷ xs) b all h =
    let q = and_parts (p x) (list_all p xs) all in
    ⊎_elim (λ e. subst (λ y. p y ≡ true) (sym (eqb-true b x e)) q.0) (of_all p xs b q.1) (or_cases (b == x) (among b xs) h)

asked_within : (u : Use) (b : ℕ) → asked u b ≡ true → nine b ≡ true
asked_within Text b = of_all nine (must Text) b refl
asked_within Attribute b = of_all nine (must Attribute) b refl
asked_within TextItem b = of_all nine (must TextItem) b refl
asked_within AttributeItem b = of_all nine (must AttributeItem) b refl

added_within : (q : QuoteLevel) (b : ℕ) → added q b ≡ true → nine b ≡ true
added_within Full b = of_all nine (62 ∷ 39 ∷ 34 ∷ []) b refl
added_within Partial b = of_all nine (62 ∷ []) b refl
added_within Minimal b = λ h. absurd (both_ways false refl h)

-- a level chooses only the nine
pub level_within : (q : QuoteLevel) (u : Use) (b : ℕ) → level_chooses q u b ≡ true → nine b ≡ true
level_within q u b h = ⊎_elim (asked_within u b) (added_within q b) (or_cases (asked u b) (added q b) h)

-- and at least what a use asks for
pub level_enough : (q : QuoteLevel) (u : Use) (b : ℕ) → asked u b ≡ true → level_chooses q u b ≡ true
level_enough q u b h = ap (λ x. x || added q b) h
