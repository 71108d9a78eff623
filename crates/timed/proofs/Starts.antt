-- A turn begins with a new writer and an empty sink. Assumes nothing.
use Rattle.std.proofs.Common.{◌≡◌, ℕ, List, [], length, take, min, Option, sym, refl, ap, ◌∙◌, subst, arith}
use Rattle.std.proofs.lemmas.List.{length-take}
use Rattle.std.specs.Borrow.{MutBor}
use Rattle.style.specs.declared.indentation.Indentation.{Indentation}
use Rattle.style.specs.declared.style.EmptyElementHandling.{EmptyElementHandling}
use Rattle.reader.specs.Trees.{Bytes}
use Rattle.model.specs.declared.frame.Frame.{Frame}
use Rattle.model.specs.Calls.{Call}
use Rattle.model.specs.Model.{State, idle}
use Rattle.model.specs.Run.{new, writer}
use Rattle.engine.specs.Memory.{Mem}
use Rattle.engine.specs.Lays.{Lays, setting}
use Rattle.writer.specs.Served.{session}
use Rattle.writer.specs.Starting.{starting}
use Rattle.writer.proofs.Starting.{starting_idle}
use Rattle.timed.specs.Whole.{Whole, Leaves, over}

module _ (f : EmptyElementHandling) (i : Option Indentation) (stage names : MutBor (List ℕ)) (frames : MutBor (List Frame)) (w : Mem) (is : w ≡ starting f i stage names frames) where
  -- its memory is as large as what it is lent, up to the most that it uses
  lent : (a b : ℕ) → length stage.now ≡ a → length names.now ≡ b → length frames.now ≡ 64 → setting w ≡ over f i a b
  lent a b p q r =
      let s : length (take 65536 stage.now) ≡ min a 65536 = omega (arith, length-take 65536 stage.now, p) in
      let n : length (take 4096 names.now) ≡ min b 4096 = omega (arith, length-take 4096 names.now, q) in
      let t : length (take 64 frames.now) ≡ 64 = omega (arith, length-take 64 frames.now, r) in
      ap setting is ∙ ap (λ x. writer f i (record { stage = x; names = length (take 4096 names.now); frames = length (take 64 frames.now) })) s ∙ ap (λ x. writer f i (record { stage = min a 65536; names = x; frames = length (take 64 frames.now) })) n ∙ ap (λ x. writer f i (record { stage = min a 65536; names = min b 4096; frames = x })) t

  pub turn : (a b o : ℕ) → length stage.now ≡ a → length names.now ≡ b → length frames.now ≡ 64 → (held : Bytes) (room : ℕ) → held ≡ [] → room ≡ o → (cs : List Call) (bs : Bytes) (k : ℕ) → ((m : State) → Lays m w → Whole (setting w) cs (session m held room) bs k) → Leaves (over f i a b) cs (new o) (length bs)
  turn a b o p q r held room none free cs bs k whole =
      let lay : Lays idle w = subst (λ z. Lays idle z) (sym is) (starting_idle f i stage names frames) in
      let here : session idle held room ≡ new o = ap (λ z. session idle z room) none ∙ ap (λ z. session idle [] z) free in
      (bs, k, subst (λ z. Whole (over f i a b) cs z bs k) here (subst (λ z. Whole z cs (session idle held room) bs k) (lent a b p q r) (whole idle lay)), refl)
