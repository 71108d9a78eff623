-- A run of calls: what it leaves, call by call. Assumes nothing.
use Rattle.std.proofs.Common.{◌≡◌, ℕ, List, [], ◌∷◌, ◌++◌, Result, sym, refl, ap, ◌∙◌, subst}
use Rattle.refusal.specs.declared.Refusal.{Refusal}
use Rattle.reader.specs.Trees.{Bytes}
use Rattle.model.specs.Calls as model
use Rattle.model.specs.Calls.{Answer}
use Rattle.model.specs.Model.{State}
use Rattle.model.specs.Table.{Setting, Verdict, refuse, accept, verdict, handed}
use Rattle.model.specs.Run.{Session, moved_on, after, answer_of, answer, answers, run}
use Rattle.model.proofs.Tables.{run-++}
use Rattle.engine.specs.Memory.{Mem}
use Rattle.engine.specs.Lays.{Lays, setting, Told}
use Rattle.writer.specs.Served.{answered, session, Serves}
use Rattle.writer.specs.Replayed.{Ran}
use Rattle.writer.proofs.Lasting.{told_setting}

-- the memory holds the model after the call, and the answer is the verdict's
pub told_model : (x : Verdict) (m : State) (r : Result (Unit {0}) Refusal) (w v : Mem) (bs h : Bytes) (k : ℕ) → Lays m w → Told x r w v → Lays (moved_on (session m bs k) h x).model v
told_model (refuse e) m r w v bs h k lay t = subst (λ y. Lays m y) (sym t.1) lay
told_model (accept n) m r w v bs h k lay t = t.1

told_answer : (x : Verdict) (r : Result (Unit {0}) Refusal) (w v : Mem) → Told x r w v → answered r ≡ answer_of x
told_answer (refuse e) r w v t = ap answered t.0
told_answer (accept n) r w v t = ap answered t.0

pub answers-++ : (w : Setting) (xs ys : List model.Call) (s : Session) → answers w (xs ++ ys) s ≡ answers w xs s ++ answers w ys (run w xs s)
answers-++ w [] ys s = refl
answers-++ w (x ∷ xs) ys s = ap (λ rs. answer w x s ∷ rs) (answers-++ w xs ys (after w x s))

-- before the first call
pub ran_none : (w : Mem) (bs : Bytes) (k : ℕ) (m : State) → Lays m w → Ran [] w w bs k bs k [] m
ran_none w bs k m lay = record { memory = lay; held = refl; room = refl; told = refl; same = refl }

-- one call
pub ran_one : (c : model.Call) (r : Result (Unit {0}) Refusal) (w v : Mem) (bs bs' : Bytes) (k k' : ℕ) → Serves c r w v bs k bs' k' → (m : State) → Lays m w → Ran (c ∷ []) w v bs k bs' k' (answered r ∷ []) m
ran_one c r w v bs bs' k k' f m lay =
    let d = f m lay in
    let x = verdict (setting w) k c m in
    record {
      memory = told_model x m r w v bs (handed w.indentation c m) k lay d.told;
      held = d.held;
      room = d.room;
      told = ap (λ z. z ∷ []) (told_answer x r w v d.told);
      same = told_setting x r w v d.told;
    }

-- calls behind calls
pub ran_then : (xs ys : List model.Call) (w u v : Mem) (bs bs₁ bs₂ : Bytes) (k k₁ k₂ : ℕ) (rs qs : List Answer) (m : State) → Ran xs w u bs k bs₁ k₁ rs m → ((n : State) → Lays n u → Ran ys u v bs₁ k₁ bs₂ k₂ qs n) → Ran (xs ++ ys) w v bs k bs₂ k₂ (rs ++ qs) m
ran_then xs ys w u v bs bs₁ bs₂ k k₁ k₂ rs qs m p f =
    let first = session m bs k in
    let s = run (setting w) xs first in
    let q = f s.model p.memory in
    let now : session s.model bs₁ k₁ ≡ s = same_session s.model bs₁ s.sink k₁ s.room p.held p.room in
    let ends : run (setting w) (xs ++ ys) first ≡ run (setting u) ys (session s.model bs₁ k₁) =
    run-++ (setting w) xs ys first ∙ ap (λ z. run z ys s) (sym p.same) ∙ ap (run (setting u) ys) (sym now) in
    let last : qs ≡ answers (setting w) ys s = q.told ∙ ap (λ z. answers z ys (session s.model bs₁ k₁)) p.same ∙ ap (answers (setting w) ys) now in
    record {
      memory = subst (λ z. Lays z.model v) (sym ends) q.memory;
      held = q.held ∙ sym (ap (λ z. z.sink) ends);
      room = q.room ∙ sym (ap (λ z. z.room) ends);
      told = ap (λ z. z ++ qs) p.told ∙ ap (λ z. answers (setting w) xs first ++ z) last ∙ sym (answers-++ (setting w) xs ys first);
      same = q.same ∙ p.same;
    }
  where
    same_session : (x : State) (a b : Bytes) (i j : ℕ) → a ≡ b → i ≡ j → session x a i ≡ session x b j
    same_session x a b i j p q = cc
