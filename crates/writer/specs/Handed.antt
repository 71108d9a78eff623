-- What a call leaves of the sink, besides what it holds and its room. Assumes nothing.
use Rattle.std.specs.Prelude.{◌≡◌, ◌≢◌, ℕ, List, take, Result}
use Rattle.refusal.specs.declared.Refusal.{Refusal}
use Rattle.model.specs.declared.place.Place.TheVariants.{Complete}
use Rattle.model.specs.Calls.{Call, call_open, call_field, call_value, call_end, call_finish, call_abandon}
use Rattle.engine.specs.Memory.{Mem}

-- what a put of these bytes, so answered, leaves of a sink
abbrev pub Leaving : Type 0 → Type 1
Leaving S = S → List ℕ → Result (Unit {0}) Refusal → S → Type 0

-- the sink s is s' once a finish is answered: the same where the record was not complete; and else one put of the whole record
-- has left it so
abbrev pub Handed : {S : Type 0} → Leaving S → Result (Unit {0}) Refusal → Mem → S → S → Type 0
Handed leaves r w s s' = (w.place ≢ Complete → s' ≡ s) × (w.place ≡ Complete → leaves s (take w.stage.used w.stage.all) r s')

-- the sink s is s' once a call is answered: a finish puts a complete record into it, and no other call touches it
abbrev pub SinkAfter : {S : Type 0} → Leaving S → Call → Result (Unit {0}) Refusal → Mem → S → S → Type 0
SinkAfter leaves (call_open n) r w s s' = s' ≡ s
SinkAfter leaves (call_field k) r w s s' = s' ≡ s
SinkAfter leaves (call_value v) r w s s' = s' ≡ s
SinkAfter leaves call_end r w s s' = s' ≡ s
SinkAfter leaves call_finish r w s s' = Handed leaves r w s s'
SinkAfter leaves call_abandon r w s s' = s' ≡ s
