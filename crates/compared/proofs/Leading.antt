-- Line by line: the sheet after the lines that are said, and the tally that the lines left lead to. Assumes nothing.
use Rattle.std.proofs.Common.{◌≡◌, ℕ, ◌+◌, ◌<◌, ◌≤◌, List, [], ◌∷◌, ◌++◌, length, get_or, drop, Some, None, Option, refl, sym, ap, ◌∙◌, subst, inl, inr, arith}
use Rattle.std.proofs.lemmas.List.{drop_more, drop_all}
use Rattle.std.proofs.lemmas.List.FromFn.{length-enumerate_from, get_or-enumerate_from}
use Rattle.std.specs.List.{enumerate_from}
use Rattle.script.specs.declared.line.Numbered.{Numbered}
use Rattle.feed.specs.declared.batch.Batch.{Batch}
use Rattle.feed.specs.Sections.{IsBatchOf, at_start, opened, longer, Extends}
use Rattle.feed.proofs.Sections.{falls_longer, falls_opened}
use Rattle.compared.specs.declared.tally.Tally.{Tally}
use Rattle.compared.specs.Comparing.{IsSheetAfter, Leads, none_judged, TakesLine}

sheet_more : (done : Option Batch) (said : List Numbered) (b b' : Batch) (n : Numbered) → IsSheetAfter said b → Extends done b n b' → IsSheetAfter (said ++ n ∷ []) b'
sheet_more None said b b' n s goes = record { done = s.done; last = longer s.last n; falls = falls_longer said s.done s.last n s.falls goes.0; batch = goes.1 s.last s.batch }
sheet_more (Some d) said b b' n s goes = record { done = s.done ++ s.last ∷ []; last = opened n; falls = falls_opened said s.done s.last n s.falls goes.0; batch = goes.2 }

-- the line that an iterator over all lines with their numbers gives
pub numbered : (texts : List (List ℕ)) (i n : ℕ) (text : List ℕ) → (i < length (enumerate_from 0 texts)) × ((n, text) ≡ get_or (enumerate_from 0 texts) i (n, text)) → (i < length texts) × (n ≡ i) × (text ≡ get_or texts i text)
numbered texts i n text h =
    let low : i < length texts = omega (arith, h.0, length-enumerate_from 0 texts) in
    let is = h.1 ∙ get_or-enumerate_from 0 texts i (n, text) low in
    let first : n ≡ 0 + i = ap (λ (p : ℕ × List ℕ). p.0) is in
    (low, omega (arith, first), ap (λ (p : ℕ × List ℕ). p.1) is)

-- before line k: the batch is the sheet so far, and whatever tally the lines left lead to, all lines lead to
pub record Far (texts : List (List ℕ)) (k : ℕ) (b : Batch) (t : Tally) : Type 0 where
  pub said : List Numbered
  pub sheet : IsSheetAfter said b
  pub leads : (u : Tally) → Leads k (drop k texts) said t u → Leads 0 texts [] none_judged u

pub far_start : (texts : List (List ℕ)) (b : Batch) (t : Tally) → IsBatchOf at_start b → t ≡ none_judged → Far texts 0 b t
far_start texts b t is none = record {
  said = [];
  sheet = record { done = []; last = at_start; falls = ((refl, tt, tt), refl); batch = is };
  leads = λ u more. subst (λ x. Leads 0 texts [] x u) none more;
}

pub far_more : (texts : List (List ℕ)) (k : ℕ) (text : List ℕ) (b b' : Batch) (t t' : Tally) → k < length texts → text ≡ get_or texts k text → Far texts k b t → TakesLine k text b b' t t' → Far texts (k + 1) b' t'
far_more texts k text b b' t t' low is far (inl h) =
    let next : drop k texts ≡ text ∷ drop (k + 1) texts = drop_more texts k text low ∙ ap (λ x. x ∷ drop (k + 1) texts) (sym is) in
    record {
      said = far.said;
      sheet = subst (IsSheetAfter far.said) (sym h.0) far.sheet;
      leads = λ u more. far.leads u (subst (λ x. Leads k x far.said t u) (sym next) (inl (t', (b, far.sheet, h.1), more)));
    }
far_more texts k text b b' t t' low is far (inr h) =
    let next : drop k texts ≡ text ∷ drop (k + 1) texts = drop_more texts k text low ∙ ap (λ x. x ∷ drop (k + 1) texts) (sym is) in
    let n : Numbered = record { number = k; line = h.2 } in
    record {
      said = far.said ++ n ∷ [];
      sheet = sheet_more h.3 far.said b b' n far.sheet h.5;
      leads = λ u more. far.leads u (subst (λ x. Leads k x far.said t u) (sym next) (inr (h.2, h.1, h.4, subst (λ x. Leads (k + 1) (drop (k + 1) texts) (far.said ++ n ∷ []) x u) h.0 more)));
    }

pub far_done : (texts : List (List ℕ)) (k : ℕ) (b : Batch) (t : Tally) → length texts ≤ k → Far texts k b t → Leads 0 texts [] none_judged t
far_done texts k b t end far = far.leads t (subst (λ x. Leads k x far.said t t) (sym (drop_all k texts end)) refl)
