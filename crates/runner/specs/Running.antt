-- What becomes of a batch: its style is refused, or its calls are made, all in one run, on a new writer and a new sink. Assumes nothing.
use Rattle.std.specs.Prelude.{◌≡◌, ℕ, min, false, List, vec_items, Option, Ok, Err, Result}
use Rattle.refusal.specs.declared.Refusal.{Refusal}
use Rattle.refusal.specs.Refusals.{Refuses}
use Rattle.style.specs.declared.style.EmptyElementHandling.{EmptyElementHandling}
use Rattle.style.specs.declared.indentation.Indentation.{Indentation}
use Rattle.style.specs.Indents.{allowed}
use Rattle.script.specs.declared.fault.ScriptError.{ScriptError}
use Rattle.script.specs.declared.fault.Fault.TheVariants.{Memory}
use Rattle.script.specs.declared.settings.Sizes.{Sizes}
use Rattle.script.specs.declared.settings.SinkChoice.{SinkChoice}
use Rattle.script.specs.declared.settings.SinkChoice.TheVariants.{Buffer, Pages}
use Rattle.reader.specs.Trees.{Bytes}
use Rattle.model.specs.Calls.{Call, Answer}
use Rattle.model.specs.Table.{Setting}
use Rattle.model.specs.Run.{run, new, writer}
use Rattle.model.specs.Laws.{sink_after, answers_to}
use Rattle.writer.specs.Served.{all_answered}
use Rattle.writer.specs.Histories.{LawsOf}
use Rattle.feed.specs.declared.batch.Batch.{Batch}
use Rattle.feed.specs.declared.setup.Setup.{Setup}
use Rattle.feed.specs.Making.{calls_made}
use Rattle.runner.specs.declared.running.Ran.{Ran as Record}
use Rattle.runner.specs.declared.want.Want.{Want}
use Rattle.runner.specs.declared.want.Want.TheVariants.{Writer, Sink}

-- a writer of this style over memory of these sizes, of which it uses no more than a writer ever does
abbrev pub set_up : EmptyElementHandling → Option Indentation → Sizes → Setting
set_up form indentation sizes = writer form indentation (record { stage = min 65536 sizes.stage; names = min 4096 sizes.names; frames = min 64 sizes.frames })

-- the calls cs on the new writer x and an empty sink of room k are answered by rs, and leave a sink that holds bs and has room k';
-- what it holds has the laws of runs
pub record Made (x : Setting) (cs : List Call) (k : ℕ) (bs : Bytes) (k' : ℕ) (rs : List Answer) : Type 0 where
  pub answers : rs ≡ answers_to x cs k
  pub bytes : bs ≡ sink_after x cs k
  pub room : k' ≡ (run x cs (new k)).room
  pub laws : LawsOf x cs rs k bs

-- the room of a new sink
abbrev pub size_of : SinkChoice → ℕ
size_of (Buffer n) = n
size_of Pages = 4096

-- the calls of the batch are made, and these are the answers, and what its sink holds and has room for
abbrev pub IsRunOf : Batch → SinkChoice → Record → Type 0
IsRunOf b choice r = Made (set_up b.setup.style.value.empty_elements b.setup.style.value.indentation b.setup.memory.value) (calls_made (vec_items b.calls)) (size_of choice) (vec_items r.bytes) r.room (all_answered (vec_items r.answers))

abbrev pub Becomes : Batch → Result Record Refusal → Type 0
Becomes b (Err e) = (allowed b.setup.style.value.indentation ≡ false) × Refuses 10 0 e
Becomes b (Ok r) = IsRunOf b b.setup.sink.value r

-- the line that sets what is wanted: that of the writer's memories, or that of the sink
abbrev pub line_of : Want → Setup → ℕ
line_of Writer s = s.memory.line
line_of Sink s = s.sink.line

-- there is no memory for it, told at its line
abbrev pub IsTold : Want → Setup → ScriptError → Type 0
IsTold w s e = (e.fault ≡ Memory) × (e.line ≡ line_of w s)

abbrev pub WantsMemory : Batch → ScriptError → Type 0
WantsMemory b e = (w : Want) × IsTold w b.setup e
