-- A chain of calls: it grows behind its last call, it is a run, and it leaves alone what lies past its largest use. Assumes nothing.
use Rattle.std.proofs.Common.{◌≡◌, ℕ, ◌+◌, ◌-◌, ◌≤◌, List, [], ◌∷◌, ◌++◌, length, drop, Option, Result, sym, refl, ap, ◌∙◌, subst, arith}
use Rattle.std.proofs.lemmas.List.{drop-drop}
use Rattle.refusal.specs.declared.Refusal.{Refusal}
use Rattle.style.specs.declared.indentation.Indentation.{Indentation}
use Rattle.reader.specs.Trees.{Bytes}
use Rattle.model.specs.Calls.{Call}
use Rattle.model.specs.Model.{State}
use Rattle.model.specs.Layout.{stage, names, frames}
use Rattle.model.specs.Table.{Setting, Verdict, refuse, accept, verdict, handed}
use Rattle.model.specs.Run.{Session, moved_on, after}
use Rattle.engine.specs.Memory.{Buf, Mem}
use Rattle.engine.specs.Lays.{Lays, Past, Beyond, setting, Told}
use Rattle.engine.proofs.Fronts.{front_length}
use Rattle.writer.specs.Served.{answered, all_answered, session, Serves}
use Rattle.writer.specs.Handed.{Leaving, SinkAfter}
use Rattle.writer.specs.Replayed.{Ran, Chain, largest, KeptPast, PastLargestKept}
use Rattle.writer.proofs.Lasting.{told_setting}
use Rattle.writer.proofs.Running.{told_model, ran_none, ran_one, ran_then}

-- so much and more
kept_further : {A : Type 0} (a b : ℕ) (p q : Buf A) → a ≤ b → KeptPast a p q → KeptPast b p q
kept_further {A = A} a b p q low h =
    let e : a + (b - a) ≡ b = omega (arith, low) in
    let on : (z : Buf A) → drop b z.all ≡ drop (b - a) (drop a z.all) = λ z. ap (λ n. drop n z.all) (sym e) ∙ sym (drop-drop (b - a) a z.all) in
    (on q ∙ ap (drop (b - a)) h.0 ∙ sym (on p), h.1, h.2)

-- once and again
kept_both : {A : Type 0} (a : ℕ) (p q r : Buf A) → KeptPast a p q → KeptPast a q r → KeptPast a p r
kept_both a p q r h k = (k.0 ∙ h.0, k.1 ∙ h.1, k.2 ∙ h.2)

-- where nothing has changed
same_kept : {A : Type 0} (a : ℕ) {p q : Buf A} → q ≡ p → KeptPast a p q
same_kept a e = (ap (λ y. drop a y.all) e, ap (λ y. y.rest) e, ap (λ y. y.reference) e)

-- a run has at least so much in use as at its start
starts_below : (size : State → ℕ) (w : Setting) (cs : List Call) (s : Session) → size s.model ≤ largest size w cs s
starts_below size w [] s = omega arith
starts_below size w (c ∷ cs) s = omega arith

same_session : (m : State) (a b : Bytes) (i j : ℕ) → a ≡ b → i ≡ j → session m a i ≡ session m b j
same_session m a b i j p q = cc

module _ {S : Type 0} (held : S → Bytes) (room : S → ℕ) (leaves : Leaving S) where
  -- one call more
  pub chain_last : (cs : List Call) (rs : List (Result (Unit {0}) Refusal)) (c : Call) (r : Result (Unit {0}) Refusal) (w u v : Mem) (s x t : S) → Chain held room leaves cs rs w s u x → Serves c r u v (held x) (room x) (held t) (room t) → SinkAfter leaves c r u x t → Chain held room leaves (cs ++ (c ∷ [])) (rs ++ (r ∷ [])) w s v t
  chain_last [] [] c r w u v s x t p f stays =
      (v, t, subst (λ y. Serves c r y v (held s) (room s) (held t) (room t)) p.0 (subst (λ y. Serves c r u v (held y) (room y) (held t) (room t)) p.1 f), subst (λ y. SinkAfter leaves c r y s t) p.0 (subst (λ y. SinkAfter leaves c r u y t) p.1 stays), (refl, refl))
  chain_last [] (q ∷ rs) c r w u v s x t p f stays = absurd p
  chain_last (d ∷ cs) [] c r w u v s x t p f stays = absurd p
  chain_last (d ∷ cs) (q ∷ rs) c r w u v s x t p f stays =
      (p.0, p.1, p.2, p.3, chain_last cs rs c r p.0 u v p.1 x t p.4 f stays)

  -- from every model that the memory holds, it is a run
  pub chain_ran : (cs : List Call) (rs : List (Result (Unit {0}) Refusal)) (w v : Mem) (s t : S) → Chain held room leaves cs rs w s v t → (m : State) → Lays m w → Ran cs w v (held s) (room s) (held t) (room t) (all_answered rs) m
  chain_ran [] [] w v s t p m lay =
      subst (λ y. Ran [] w y (held s) (room s) (held t) (room t) [] m) (sym p.0) (subst (λ y. Ran [] w w (held s) (room s) (held y) (room y) [] m) (sym p.1) (ran_none w (held s) (room s) m lay))
  chain_ran [] (r ∷ rs) w v s t p m lay = absurd p
  chain_ran (c ∷ cs) [] w v s t p m lay = absurd p
  chain_ran (c ∷ cs) (r ∷ rs) w v s t p m lay =
      ran_then (c ∷ []) cs w p.0 v (held s) (held p.1) (held t) (room s) (room p.1) (room t) (answered r ∷ []) (all_answered rs) m
      (ran_one c r w p.0 (held s) (held p.1) (room s) (room p.1) p.2 m lay)
      (λ n there. chain_ran cs rs p.0 v p.1 t p.4 n there)

  -- one of the three memories: how much of it a model has in use
  module _ {A : Type 0} (part : Mem → Buf A) (size : Option Indentation → State → ℕ) (in_use : (m : State) (w : Mem) → Lays m w → (part w).used ≡ size w.indentation m) (past : (w v : Mem) → Beyond w v → Past (part w) (part v)) where
    -- one call keeps what lies past the use that it leaves
    one_kept : (x : Verdict) (m : State) (r : Result (Unit {0}) Refusal) (w u : Mem) (bs h : Bytes) (k a : ℕ) → Told x r w u → size w.indentation (moved_on (session m bs k) h x).model ≤ a → KeptPast a (part w) (part u)
    one_kept (refuse e) m r w u bs h k a t low = same_kept a (ap part t.1)
    one_kept (accept n) m r w u bs h k a t low =
        let used : (part u).used ≡ size w.indentation n = in_use n u t.1 ∙ ap (λ i. size i n) t.2.indentation in
        let p = past w u t.2 in
        kept_further (part u).used a (part w) (part u) (omega (arith, used, low)) (p.past, p.rest, p.reference)

    kept : (cs : List Call) (rs : List (Result (Unit {0}) Refusal)) (w v : Mem) (s t : S) → Chain held room leaves cs rs w s v t → (m : State) → Lays m w → KeptPast (largest (size w.indentation) (setting w) cs (session m (held s) (room s))) (part w) (part v)
    kept [] [] w v s t p m lay = same_kept (size w.indentation m) (ap part p.0)
    kept [] (r ∷ rs) w v s t p m lay = absurd p
    kept (c ∷ cs) [] w v s t p m lay = absurd p
    kept (c ∷ cs) (r ∷ rs) w v s t p m lay =
        let d = p.2 m lay in
        let x = verdict (setting w) (room s) c m in
        let bs = handed w.indentation c m in
        let first = session m (held s) (room s) in
        let next = after (setting w) c first in
        let there : Lays next.model p.0 = told_model x m r w p.0 (held s) bs (room s) lay d.told in
        let same : setting p.0 ≡ setting w = told_setting x r w p.0 d.told in
        let now : session next.model (held p.1) (room p.1) ≡ next = same_session next.model (held p.1) next.sink (room p.1) next.room d.held d.room in
        let later : ℕ = largest (size w.indentation) (setting w) cs next in
        let all : ℕ = largest (size w.indentation) (setting w) (c ∷ cs) first in
        let rest : KeptPast later (part p.0) (part v) =
        subst (λ z. KeptPast (largest (size w.indentation) (setting w) cs z) (part p.0) (part v)) now
        (subst (λ z. KeptPast (largest (size z.indentation) z cs (session next.model (held p.1) (room p.1))) (part p.0) (part v)) same (kept cs rs p.0 v p.1 t p.4 next.model there)) in
        let below : size w.indentation next.model ≤ later = starts_below (size w.indentation) (setting w) cs next in
        let within : later ≤ all = omega arith in
        let first_kept : KeptPast all (part w) (part p.0) = one_kept x m r w p.0 (held s) bs (room s) all d.told (omega (arith, below, within)) in
        kept_both all (part w) (part p.0) (part v) first_kept (kept_further later all (part p.0) (part v) within rest)

  -- of all three
  pub chain_past : (cs : List Call) (rs : List (Result (Unit {0}) Refusal)) (w v : Mem) (s t : S) → Chain held room leaves cs rs w s v t → (m : State) → Lays m w → PastLargestKept cs w v (session m (held s) (room s))
  chain_past cs rs w v s t p m lay =
      record {
        stage = kept (λ y. y.stage) (λ i n. length (stage i n)) (λ n y l. front_length y.stage (stage y.indentation n) l.holds.stage) (λ y z b. b.stage) cs rs w v s t p m lay;
        names = kept (λ y. y.names) (λ i n. length (names n)) (λ n y l. front_length y.names (names n) l.holds.names) (λ y z b. b.names) cs rs w v s t p m lay;
        frames = kept (λ y. y.frames) (λ i n. length (frames i n)) (λ n y l. front_length y.frames (frames y.indentation n) l.holds.frames) (λ y z b. b.frames) cs rs w v s t p m lay;
      }
