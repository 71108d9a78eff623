-- The run of a new writer on an empty sink is a history of its own, and so has the laws. Assumes nothing.
use Rattle.std.proofs.Common.{◌≡◌, ℕ, min, List, [], length, Option, Result, ap, ◌∙◌, subst, sym}
use Rattle.std.proofs.lemmas.List.{length-take}
use Rattle.std.specs.Borrow.{MutBor}
use Rattle.refusal.specs.declared.Refusal.{Refusal}
use Rattle.style.specs.declared.style.EmptyElementHandling.{EmptyElementHandling}
use Rattle.style.specs.declared.indentation.Indentation.{Indentation}
use Rattle.script.specs.declared.settings.Sizes.{Sizes}
use Rattle.reader.specs.Trees.{Bytes}
use Rattle.model.specs.declared.frame.Frame.{Frame}
use Rattle.model.specs.Calls.{Call}
use Rattle.model.specs.Table.{Setting}
use Rattle.engine.specs.Memory.{Mem}
use Rattle.engine.specs.Lays.{setting}
use Rattle.writer.specs.Starting.{starting}
use Rattle.writer.specs.Served.{all_answered}
use Rattle.writer.specs.Handed.{Leaving}
use Rattle.writer.specs.Histories.{History}
use Rattle.writer.specs.Replayed.{Replayed}
use Rattle.writer.proofs.Histories.{history_begins}
use Rattle.runner.specs.Running.{set_up, Made}

module _ (f : EmptyElementHandling) (i : Option Indentation) (z : Sizes) (stage names : MutBor (List ℕ)) (frames : MutBor (List Frame)) (a : length stage.now ≡ z.stage) (b : length names.now ≡ z.names) (c : length frames.now ≡ z.frames) where
  same_setting : (k m n : ℕ) → k ≡ min 65536 z.stage → m ≡ min 4096 z.names → n ≡ min 64 z.frames → ◌≡◌ {A = Setting} (record { form = f; indentation = i; memory = record { stage = k; names = m; frames = n } }) (set_up f i z)
  same_setting k m n p q r = cc

  -- memory of these sizes makes a writer of these sizes
  is_set_up : setting (starting f i stage names frames) ≡ set_up f i z
  is_set_up =
      same_setting (length (starting f i stage names frames).stage.all) (length (starting f i stage names frames).names.all) (length (starting f i stage names frames).frames.all)
      (length-take 65536 stage.now ∙ ap (min 65536) a) (length-take 4096 names.now ∙ ap (min 4096) b) (length-take 64 frames.now ∙ ap (min 64) c)

  pub made : {S : Type 0} (held : S → Bytes) (room : S → ℕ) (leaves : Leaving S) (cs : List Call) (rs : List (Result (Unit {0}) Refusal)) (w v : Mem) (s t : S) → w ≡ starting f i stage names frames → held s ≡ [] → Replayed held room leaves cs rs w s v t → Made (set_up f i z) cs (room s) (held t) (room t) (all_answered rs)
  made held room leaves cs rs w v s t is none r =
      let k = room s in
      let new : History (set_up f i z) [] [] k w (held s) k =
      subst (λ y. History (set_up f i z) [] [] k y (held s) k) (sym is) (subst (λ y. History (set_up f i z) [] [] k (starting f i stage names frames) y k) (sym none) (subst (λ y. History y [] [] k (starting f i stage names frames) [] k) is_set_up (history_begins f i stage names frames k))) in
      let grown = r.grows (set_up f i z) [] [] k new in
      record { answers = grown.told; bytes = grown.held; room = grown.room; laws = r.laws (set_up f i z) [] [] k new }
