-- What a run of calls on a writer and a sink leaves: each call's own promise, one after another. Assumes nothing.
use Rattle.std.specs.Prelude.{◌≡◌, ℕ, max, List, [], ◌∷◌, ◌++◌, length, map, drop, Result}
use Rattle.refusal.specs.declared.Refusal.{Refusal}
use Rattle.reader.specs.Trees.{Bytes}
use Rattle.model.specs.Calls.{Call, Answer}
use Rattle.model.specs.Model.{State}
use Rattle.model.specs.Layout.{stage, names, frames}
use Rattle.model.specs.Table.{Setting}
use Rattle.model.specs.Run.{Session, run, answers, after}
use Rattle.engine.specs.Memory.{Buf, Mem}
use Rattle.engine.specs.Lays.{Lays, setting}
use Rattle.writer.specs.declared.call.Call.{Call as call_in_code}
use Rattle.writer.specs.declared.replay.Step.{Step}
use Rattle.writer.specs.Served.{session, Serves, all_answered}
use Rattle.writer.specs.Handed.{Leaving, SinkAfter}
use Rattle.writer.specs.Histories.{New, History, LawsOf}

-- the calls of steps, and what stands in the places of their answers
abbrev pub calls_of : {R : Type 0} → List (Step R) → List (call_in_code R)
calls_of steps = map (λ s. s.call) steps

abbrev pub answers_of : {R : Type 0} → List (Step R) → List (Result (Unit {0}) Refusal)
answers_of steps = map (λ s. s.answer) steps

module _ {S : Type 0} (held : S → Bytes) (room : S → ℕ) (leaves : Leaving S) where
  -- the calls are made one after another, each with its own promise and its answer, and nothing happens between them, before the
  -- first or behind the last: from the memory w and the sink s to v and t
  abbrev pub Chain : List Call → List (Result (Unit {0}) Refusal) → Mem → S → Mem → S → Type 0
  Chain [] [] w s v t = (v ≡ w) × (t ≡ s)
  Chain [] (r ∷ rs) w s v t = ⊥
  Chain (c ∷ cs) [] w s v t = ⊥
  Chain (c ∷ cs) (r ∷ rs) w s v t = (u : Mem) × (x : S) × Serves c r w u (held s) (room s) (held x) (room x) × SinkAfter leaves c r w s x × Chain cs rs u x v t

-- from a writer that holds the model m: the memory holds the model that the calls lead to, the sink what they hand to it, and each
-- answer is the one that its call has in the run
pub record Ran (cs : List Call) (w v : Mem) (bs : Bytes) (k : ℕ) (bs' : Bytes) (k' : ℕ) (rs : List Answer) (m : State) : Type 0 where
  pub memory : Lays (run (setting w) cs (session m bs k)).model v
  pub held : bs' ≡ (run (setting w) cs (session m bs k)).sink
  pub room : k' ≡ (run (setting w) cs (session m bs k)).room
  pub told : rs ≡ answers (setting w) cs (session m bs k)
  -- style and memory sizes stay
  pub same : setting v ≡ setting w

-- the most that a run has in use, at its start or behind a call of it
abbrev pub largest : (State → ℕ) → Setting → List Call → Session → ℕ
largest size w [] s = size s.model
largest size w (c ∷ cs) s = max (size s.model) (largest size w cs (after w c s))

-- it is still the same slice, and what lies past so much is as it was, as is what lies past all that may be used
abbrev pub KeptPast : {A : Type 0} → ℕ → Buf A → Buf A → Type 0
KeptPast n b c = (drop n c.all ≡ drop n b.all) × (c.rest ≡ b.rest) × (c.reference ≡ b.reference)

-- what lies past the largest use of a run is as it was before the run, in the same three slices
pub record PastLargestKept (cs : List Call) (w v : Mem) (s : Session) : Type 0 where
  pub stage : KeptPast (largest (λ m. length (stage w.indentation m)) (setting w) cs s) w.stage v.stage
  pub names : KeptPast (largest (λ m. length (names m)) (setting w) cs s) w.names v.names
  pub frames : KeptPast (largest (λ m. length (frames w.indentation m)) (setting w) cs s) w.frames v.frames

-- the calls cs were run on a writer and a sink: memory w and v and the sinks s and t before and after, and the results
pub record Replayed {S : Type 0} (held : S → Bytes) (room : S → ℕ) (leaves : Leaving S) (cs : List Call) (rs : List (Result (Unit {0}) Refusal)) (w : Mem) (s : S) (v : Mem) (t : S) : Type 0 where
  pub chain : Chain held room leaves cs rs w s v t
  -- and so, from every model that the memory holds
  pub ran : (m : State) → Lays m w → Ran cs w v (held s) (room s) (held t) (room t) (all_answered rs) m
  pub past : (m : State) → Lays m w → PastLargestKept cs w v (session m (held s) (room s))
  -- no calls led to a writer that is idle and a sink that is empty
  pub begins : New w (held s) → History (setting w) [] [] (room s) w (held s) (room s)
  -- whatever calls led to this writer and this sink, they and the calls of this run led to what is there now, and have the laws
  pub grows : (x : Setting) (hs : List Call) (qs : List Answer) (r : ℕ) → History x hs qs r w (held s) (room s) → History x (hs ++ cs) (qs ++ all_answered rs) r v (held t) (room t)
  pub laws : (x : Setting) (hs : List Call) (qs : List Answer) (r : ℕ) → History x hs qs r w (held s) (room s) → LawsOf x (hs ++ cs) (qs ++ all_answered rs) r (held t)
