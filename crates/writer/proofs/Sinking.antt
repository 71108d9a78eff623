-- What a call leaves in the sink, by how it was answered. Assumes nothing.
use Rattle.std.proofs.Common.{◌≡◌, ℕ, ◌-◌, [], ◌++◌, length, Ok, Err, Result, sym, refl, ap, ◌∙◌, subst, arith}
use Rattle.std.proofs.lemmas.List.{append-nil}
use Rattle.refusal.specs.declared.Refusal.{Refusal}
use Rattle.reader.specs.Trees.{Bytes}
use Rattle.model.specs.Calls.{Call}
use Rattle.model.specs.Model.{State}
use Rattle.model.specs.Table.{Verdict, refuse, accept, verdict, handed}
use Rattle.model.specs.Run.{Session, moved_on}
use Rattle.engine.specs.Memory.{Mem}
use Rattle.engine.specs.Lays.{setting, Told, Does}
use Rattle.writer.specs.Served.{Serves, session}

clash : {A : Type 0} → ◌≡◌ {A = ℕ} 0 1 → A
clash z = absurd (omega (arith, z))

-- refused, all is as it was
pub refused_stays : (x : Verdict) (e : Refusal) (w v : Mem) (s : Session) (bs : Bytes) → Told x (Err e) w v → moved_on s bs x ≡ s
refused_stays (refuse d) e w v s bs t = refl
refused_stays (accept m) e w v s bs t = let h : ◌≡◌ {A = Result (Unit {0}) Refusal} (Err e) (Ok tt) = t.0 in clash (cc)

-- accepted, what is handed over goes behind what the sink holds
pub accepted_sink : (x : Verdict) (w v : Mem) (s : Session) (bs : Bytes) → Told x (Ok tt) w v → (moved_on s bs x).sink ≡ s.sink ++ bs
accepted_sink (refuse d) w v s bs t = let h : ◌≡◌ {A = Result (Unit {0}) Refusal} (Ok tt) (Err d) = t.0 in clash (cc)
accepted_sink (accept m) w v s bs t = refl

pub accepted_room : (x : Verdict) (w v : Mem) (s : Session) (bs : Bytes) → Told x (Ok tt) w v → (moved_on s bs x).room ≡ s.room - length bs
accepted_room (refuse d) w v s bs t = let h : ◌≡◌ {A = Result (Unit {0}) Refusal} (Ok tt) (Err d) = t.0 in clash (cc)
accepted_room (accept m) w v s bs t = refl

-- nothing is handed over: the sink is as it was, however the call was answered
pub unmoved_sink : (x : Verdict) (s : Session) → (moved_on s [] x).sink ≡ s.sink
unmoved_sink (refuse d) s = refl
unmoved_sink (accept m) s = append-nil s.sink

pub unmoved_room : (x : Verdict) (s : Session) → (moved_on s [] x).room ≡ s.room
unmoved_room (refuse d) s = refl
unmoved_room (accept m) s = omega arith

-- a call that hands nothing to the sink, whatever the model
pub does_serves : (c : Call) (r : Result (Unit {0}) Refusal) (w v : Mem) (bs : Bytes) (k : ℕ) → ((m : State) → handed w.indentation c m ≡ []) → Does c k r w v → Serves c r w v bs k bs k
does_serves c r w v bs k none d m lay =
    let x = verdict (setting w) k c m in
    let s = session m bs k in
    record {
      told = d m lay;
      held = sym (ap (λ h. (moved_on s h x).sink) (none m) ∙ unmoved_sink x s);
      room = sym (ap (λ h. (moved_on s h x).room) (none m) ∙ unmoved_room x s);
    }

-- the same for a call that is written in another way
pub serves_as : (c d : Call) (r : Result (Unit {0}) Refusal) (w v : Mem) (bs : Bytes) (k : ℕ) → d ≡ c → ((m : State) → handed w.indentation c m ≡ []) → Does c k r w v → Serves d r w v bs k bs k
serves_as c d r w v bs k e none does = subst (λ x. Serves x r w v bs k bs k) (sym e) (does_serves c r w v bs k none does)
