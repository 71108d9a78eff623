-- Runs: calls one after another on one writer and one sink, each answered from what came before. Assumes nothing.
use Rattle.std.specs.Prelude.{ℕ, ◌-◌, List, [], ◌∷◌, ◌++◌, length, Option}
use Rattle.style.specs.declared.indentation.Indentation.{Indentation}
use Rattle.style.specs.declared.style.EmptyElementHandling.{EmptyElementHandling}
use Rattle.reader.specs.Trees.{Bytes}
use Rattle.model.specs.Calls.{Call, Answer, accepted, refused}
use Rattle.model.specs.Model.{State, idle}
use Rattle.model.specs.Table.{Memory, Setting, Verdict, refuse, accept, verdict, handed}

-- a writer's model, what the sink holds, and the room that is left in it
pub record Session : Type 0 where
  pub model : State
  pub sink : Bytes
  pub room : ℕ

-- a new writer and an empty sink of this room
abbrev pub new : ℕ → Session
new r = record { model = idle; sink = []; room = r }

-- a writer of this style over this memory
abbrev pub writer : EmptyElementHandling → Option Indentation → Memory → Setting
writer f i m = record { form = f; indentation = i; memory = m }

-- the answer that a verdict gives
abbrev pub answer_of : Verdict → Answer
answer_of (refuse e) = refused e
answer_of (accept st) = accepted

-- how a call is answered
abbrev pub answer : Setting → Call → Session → Answer
answer w c s = answer_of (verdict w s.room c s.model)

-- an accepted call moves the model on, and what it hands to the sink goes behind what the sink holds
abbrev pub moved_on : Session → Bytes → Verdict → Session
moved_on s bs (refuse e) = s
moved_on s bs (accept st) = record { model = st; sink = s.sink ++ bs; room = s.room - length bs }

-- the session after one call
abbrev pub after : Setting → Call → Session → Session
after w c s = moved_on s (handed w.indentation c s.model) (verdict w s.room c s.model)

-- the session after a list of calls, refused ones among them
abbrev pub run : Setting → List Call → Session → Session
run w [] s = s
run w (c ∷ cs) s = run w cs (after w c s)

-- the answers to a list of calls
abbrev pub answers : Setting → List Call → Session → List Answer
answers w [] s = []
answers w (c ∷ cs) s = answer w c s ∷ answers w cs (after w c s)

-- every one of the calls was accepted
abbrev pub all_accepted : List Call → List Answer
all_accepted [] = []
all_accepted (c ∷ cs) = accepted ∷ all_accepted cs
