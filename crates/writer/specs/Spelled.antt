-- Which call of the model a call in code is. Assumes nothing.
use Rattle.std.specs.Prelude.{◌≡◌, List, [], ◌∷◌}
use Rattle.model.specs.Calls as model
use Rattle.model.specs.Calls.{call_open, call_field, call_value, call_end, call_finish, call_abandon}
use Rattle.places.specs.Values.{Chooses, ValueIs}
use Rattle.writer.specs.declared.call.Call.{Call}
use Rattle.writer.specs.declared.call.Call.TheVariants.{Open, Field, Value as value_call, End, Finish, Abandon}

abbrev pub CallIs : {R : Type 0} → Chooses R → Call R → model.Call → Type 0
CallIs ch (Open s) c = c ≡ call_open s.now
CallIs ch (Field s) c = c ≡ call_field s.now
CallIs ch (value_call x) c = (v : model.Value) × ValueIs ch x v × (c ≡ call_value v)
CallIs ch End c = c ≡ call_end
CallIs ch Finish c = c ≡ call_finish
CallIs ch Abandon c = c ≡ call_abandon

-- call by call
abbrev pub CallsAre : {R : Type 0} → Chooses R → List (Call R) → List model.Call → Type 0
CallsAre ch [] [] = Unit {0}
CallsAre ch [] (c ∷ cs) = ⊥
CallsAre ch (x ∷ xs) [] = ⊥
CallsAre ch (x ∷ xs) (c ∷ cs) = CallIs ch x c × CallsAre ch xs cs
