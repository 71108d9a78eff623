-- A test that every byte of a string passes.
use Rattle.std.proofs.Common.{◌≡◌, ℕ, Bool, true, false, not, [], ◌∷◌, ◌++◌, refl, ⊎_elim}
use Rattle.std.specs.List.{AllByRecursion, list_all}
use Rattle.std.proofs.lemmas.Bool.{and_parts, and_from, cases_Bool}
use Rattle.xml.specs.Escaping.{among}
use Rattle.xml.specs.Back.{free}
use Rattle.xml.specs.Levels.{of_each}
use Rattle.reader.specs.Trees.{Bytes}

-- as a record, so that the string is read off the fact; at written-out bytes it is `record { is = refl }`
pub record Each (p : ℕ → Bool) (s : Bytes) : Type 0 where
  pub is : list_all p s ≡ true

module _ {p : ℕ → Bool} where
  pub each_more : (b : ℕ) (s : Bytes) → p b ≡ true → Each p s → Each p (b ∷ s)
  each_more b s e h = record { is = and_from (p b) (list_all p s) e h.is }

  pub each_here : {b : ℕ} {s : Bytes} → Each p (b ∷ s) → p b ≡ true
  each_here {b} {s} h = (and_parts (p b) (list_all p s) h.is).0

  pub each_rest : {b : ℕ} {s : Bytes} → Each p (b ∷ s) → Each p s
  each_rest {b} {s} h = record { is = (and_parts (p b) (list_all p s) h.is).1 }

  pub each-++ : {s t : Bytes} → Each p s → Each p t → Each p (s ++ t)
  each-++ {s = []} h k = k
  each-++ {s = b ∷ s} {t} h k = each_more b (s ++ t) (each_here h) (each-++ (each_rest h) k)

  pub each_weaker : {s : Bytes} (q : ℕ → Bool) → ((b : ℕ) → p b ≡ true → q b ≡ true) → Each p s → Each q s
  each_weaker {s = []} q w h = record { is = refl }
  each_weaker {s = b ∷ s} q w h = record { is = and_from (q b) (list_all q s) (w b (each_here h)) (each_weaker q w (each_rest h)).is }

-- bytes that are none of some
pub each_free : (bars : Bytes) {s : Bytes} → Each (λ b. not (among b bars)) s → free bars s ≡ true
each_free bars {s = []} h = refl
each_free bars {s = b ∷ s} h = and_from (not (among b bars)) (free bars s) (each_here h) (each_free bars (each_rest h))

-- what holds of none of some bytes does not hold of what is among them
pub not_among : (P : ℕ → Type 0) (xs : Bytes) → AllByRecursion (λ x. P x → ⊥) xs → (b : ℕ) → P b → among b xs ≡ false
not_among P xs h b k = ⊎_elim (λ e. absurd (of_each (λ x. P x → ⊥) xs b h e k)) (λ e. e) (cases_Bool (among b xs))
