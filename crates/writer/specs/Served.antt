-- What one call leaves in writer and sink together. Assumes nothing.
use Rattle.std.specs.Prelude.{◌≡◌, ℕ, Bool, true, false, List, [], ◌∷◌, Ok, Err, Result}
use Rattle.refusal.specs.declared.Refusal.{Refusal}
use Rattle.reader.specs.Trees.{Bytes}
use Rattle.model.specs.Calls.{Call, call_open, call_field, call_value, call_end, call_finish, call_abandon, Answer, accepted, refused}
use Rattle.model.specs.Model.{State}
use Rattle.model.specs.Table.{verdict}
use Rattle.model.specs.Run.{Session, after}
use Rattle.engine.specs.Memory.{Mem}
use Rattle.engine.specs.Lays.{Lays, setting, Told}

-- the answer that a result of the code is
abbrev pub answered : Result (Unit {0}) Refusal → Answer
answered (Ok x) = accepted
answered (Err e) = refused e

abbrev pub all_answered : List (Result (Unit {0}) Refusal) → List Answer
all_answered [] = []
all_answered (r ∷ rs) = answered r ∷ all_answered rs

-- what a result says besides the ticket that it hands out or gives back
abbrev pub unit_of : {A : Type 0} → Result A Refusal → Result (Unit {0}) Refusal
unit_of (Ok x) = Ok tt
unit_of (Err e) = Err e

abbrev pub refusal_of : {A : Type 0} → Result (Unit {0}) (Refusal × A) → Result (Unit {0}) Refusal
refusal_of (Ok x) = Ok tt
refusal_of (Err x) = Err x.0

-- a writer that holds this model, and a sink with what it holds and its room
abbrev pub session : State → Bytes → ℕ → Session
session m held room = record { model = m; sink = held; room = room }

-- the call on the model m: the answer and the memory are as its verdict tells, and the sink is as the call leaves it; the sink
-- held bs and had room k, and now holds bs' and has room k'
pub record Served (c : Call) (r : Result (Unit {0}) Refusal) (w v : Mem) (bs : Bytes) (k : ℕ) (bs' : Bytes) (k' : ℕ) (m : State) : Type 0 where
  pub told : Told (verdict (setting w) k c m) r w v
  pub held : bs' ≡ (after (setting w) c (session m bs k)).sink
  pub room : k' ≡ (after (setting w) c (session m bs k)).room

-- on every model that the memory holds
abbrev pub Serves : Call → Result (Unit {0}) Refusal → Mem → Mem → Bytes → ℕ → Bytes → ℕ → Type 0
Serves c r w v bs k bs' k' = (m : State) → Lays m w → Served c r w v bs k bs' k' m

-- whether a ticket is held once a call is answered so, and whether one was held before: an accepted open hands one out, an
-- accepted finish or abandon takes it, and nothing else changes that
abbrev pub holds_on : Call → Answer → Bool → Bool
holds_on c (refused e) held = held
holds_on (call_open n) accepted held = true
holds_on (call_field k) accepted held = held
holds_on (call_value v) accepted held = held
holds_on call_end accepted held = held
holds_on call_finish accepted held = false
holds_on call_abandon accepted held = false

-- once all of them are
abbrev pub holds_after : List Call → List Answer → Bool → Bool
holds_after (c ∷ cs) (r ∷ rs) held = holds_after cs rs (holds_on c r held)
holds_after cs rs held = held

-- every call but finish leaves the sink alone
abbrev pub HandsNothing : Call → Type 0
HandsNothing (call_open n) = Unit {0}
HandsNothing (call_field k) = Unit {0}
HandsNothing (call_value v) = Unit {0}
HandsNothing call_end = Unit {0}
HandsNothing call_finish = ⊥
HandsNothing call_abandon = Unit {0}
