-- The promise of a run, from the chain of its calls. Assumes nothing.
use Rattle.std.proofs.Common.{◌≡◌, ℕ, ◌≤◌, List, [], ◌++◌, take, Result, refl, ap, arith}
use Rattle.refusal.specs.declared.Refusal.{Refusal}
use Rattle.reader.specs.Trees.{Bytes}
use Rattle.model.specs.declared.place.Place.TheVariants.{Idle}
use Rattle.model.specs.Calls.{Call, Answer}
use Rattle.model.specs.Table.{Setting}
use Rattle.model.specs.Model.{State, idle}
use Rattle.engine.specs.Memory.{Buf, Mem}
use Rattle.engine.specs.Lays.{Front, Lays, setting}
use Rattle.engine.proofs.Fronts.{front_length}
use Rattle.engine.proofs.Spots.{on_idle}
use Rattle.places.specs.Sound.{Sound}
use Rattle.places.proofs.Standing.{always}
use Rattle.writer.specs.Served.{all_answered}
use Rattle.writer.specs.Handed.{Leaving}
use Rattle.writer.specs.Histories.{New, History}
use Rattle.writer.specs.Replayed.{Ran, Chain, Replayed}
use Rattle.writer.proofs.Chaining.{chain_ran, chain_past}
use Rattle.writer.proofs.Histories.{history_grows_by, laws_of}

-- nothing of it is in use
unused : {A : Type 0} (b : Buf A) → b.used ≤ 0 → Front b []
unused b h = let e : b.used ≡ 0 = omega (arith, h) in record { fits = omega (arith, h); is = ap (λ n. take n b.all) e }

-- at the idle place the memory holds the idle model
pub idle_laid : (w : Mem) → Sound w → w.place ≡ Idle → Lays idle w
idle_laid w s e =
    let low : (a : ℕ) → ((lay : Lays idle w) → a ≤ 0) → a ≤ 0 = λ a f. always w a 0 s (λ m lay. on_idle (λ x. a ≤ 0) w m lay e f) in
    let none : w.records ≤ 0 = low w.records (λ lay. omega (arith, lay.holds.records)) in
    record {
      holds = record {
        stage = unused w.stage (low w.stage.used (λ lay. omega (arith, front_length w.stage [] lay.holds.stage)));
        names = unused w.names (low w.names.used (λ lay. omega (arith, front_length w.names [] lay.holds.names)));
        frames = unused w.frames (low w.frames.used (λ lay. omega (arith, front_length w.frames [] lay.holds.frames)));
        records = omega (arith, none);
        wordy = tt;
        fit = tt;
      };
      place = e;
    }

-- no calls led to a writer that is idle and a sink that is empty
pub history_begins_idle : (w : Mem) (bs : Bytes) (k : ℕ) → Sound w → New w bs → History (setting w) [] [] k w bs k
history_begins_idle w bs k sound n = record { writer = refl; memory = idle_laid w sound n.place; held = n.empty; room = refl; told = refl }

pub replayed : {S : Type 0} (held : S → Bytes) (room : S → ℕ) (leaves : Leaving S) (cs : List Call) (rs : List (Result (Unit {0}) Refusal)) (w v : Mem) (s t : S) → Sound w → Chain held room leaves cs rs w s v t → Replayed held room leaves cs rs w s v t
replayed held room leaves cs rs w v s t sound chain =
    let ran : (m : State) → Lays m w → Ran cs w v (held s) (room s) (held t) (room t) (all_answered rs) m = chain_ran held room leaves cs rs w v s t chain in
    let grown : (x : Setting) (hs : List Call) (qs : List Answer) (r : ℕ) → History x hs qs r w (held s) (room s) → History x (hs ++ cs) (qs ++ all_answered rs) r v (held t) (room t) =
    λ x hs qs r h. history_grows_by x hs cs qs (all_answered rs) r w v (held s) (held t) (room s) (room t) h ran in
    record {
      chain = chain;
      ran = ran;
      past = chain_past held room leaves cs rs w v s t chain;
      begins = history_begins_idle w (held s) (room s) sound;
      grows = grown;
      laws = λ x hs qs r h. laws_of x (hs ++ cs) (qs ++ all_answered rs) r v (held t) (room t) (grown x hs qs r h);
    }
