-- What a script gives: what is written of its writers, one after another, and what stops it. Assumes nothing.
use Rattle.std.specs.Prelude.{◌≡◌, ◌⊎◌, ℕ, Bool, true, false, List, [], ◌∷◌, ◌++◌, Some, None, Option, Ok, Err, Result}
use Rattle.std.specs.Io.KnownBytes.{Appends}
use Rattle.std.specs.declared.io.Error.{Error}
use Rattle.refusal.specs.declared.Refusal.{Refusal}
use Rattle.script.specs.declared.fault.Fault.TheVariants.{Memory}
use Rattle.script.specs.declared.fault.ScriptError.{ScriptError}
use Rattle.script.specs.declared.line.Numbered.{Numbered}
use Rattle.script.specs.declared.order.Phase.TheVariants.{SettingUp}
use Rattle.script.specs.declared.order.Role.TheVariants.{Starts, Calls}
use Rattle.script.specs.Order.{role}
use Rattle.script.specs.Script.{Reader, Next}
use Rattle.feed.specs.declared.batch.Batch.{Batch}
use Rattle.feed.specs.Batches.{Stays}
use Rattle.feed.specs.Sections.{Section, FallInto, IsBatchOf, Extends}
use Rattle.runner.specs.declared.running.Ran.{Ran}
use Rattle.runner.specs.declared.feeding.Output.{Output}
use Rattle.runner.specs.declared.feeding.Output.TheVariants.{Plain, Trace}
use Rattle.runner.specs.declared.feeding.Feeding.{Feeding}
use Rattle.runner.specs.declared.stop.Stop.{Stop}
use Rattle.runner.specs.declared.stop.Stop.TheVariants.{Script, Io}
use Rattle.runner.specs.Running.{Becomes, WantsMemory}
use Rattle.runner.specs.Printing.{refusals_told, xml_of, trace_of, GivesOrWants}

-- bytes for standard output, and bytes for standard error
pub record Written : Type 0 where
  pub out : List ℕ
  pub err : List ℕ

abbrev pub nothing : Written
nothing = record { out = []; err = [] }

-- the one, and behind it the other
abbrev pub then : Written → Written → Written
then v w = record { out = v.out ++ w.out; err = v.err ++ w.err }

-- what the two outputs hold, where that is known
pub record Held : Type 0 where
  pub out : Option (List ℕ)
  pub err : Option (List ℕ)

abbrev pub holds : {O E : Type 0} → (O → Option (List ℕ)) → (E → Option (List ℕ)) → Feeding O E → Held
holds contents errors f = record { out = contents f.out; err = errors f.err }

-- this, and not a byte more, is written to the two
abbrev pub Gains : Held → Held → Written → Type 0
Gains old new w = Appends old.out new.out w.out × Appends old.err new.err w.err

-- what is written of a writer that became r: its XML, and beside that its refusals, or its trace
abbrev pub written_of : Output → Batch → Result Ran Refusal → Written
written_of Plain b r = record { out = xml_of r; err = refusals_told b r }
written_of Trace b r = record { out = trace_of r; err = [] }

-- what is written of a writer that an error stops: its refusals alone, and nothing in a trace
abbrev pub StoppedGives : Output → Batch → Written → Type 0
StoppedGives Plain b w = (r : Result Ran Refusal) × Becomes b r × (w ≡ record { out = []; err = refusals_told b r })
StoppedGives Trace b w = w ≡ nothing

-- of one that no trace tells of, nothing is written
abbrev pub GivesIf : Bool → Output → Batch → Written → Type 0
GivesIf true output b w = (r : Result Ran Refusal) × Becomes b r × (w ≡ written_of output b r)
GivesIf false output b w = w ≡ nothing

-- what is written of a writer that is done
abbrev pub Gives : Output → Batch → Written → Type 0
Gives output b w = GivesIf b.reported output b w

-- the writers of these sections, each after the one before it
abbrev pub AllGive : Output → List Section → Written → Type 0
AllGive output [] w = w ≡ nothing
AllGive output (s ∷ ss) w = (b : Batch) × (v : Written) × (u : Written) × IsBatchOf s b × Gives output b v × AllGive output ss u × (w ≡ then v u)

-- these lines are read one after another, from one place in a script to another
abbrev pub Reads : Reader → List Numbered → Reader → Type 0
Reads r [] t = t ≡ r
Reads r (n ∷ ns) t = (s : Reader) × Next (Ok (Some n)) r s × Reads s ns t

-- where the reading of a script begins
abbrev pub start : List ℕ → Reader
start text = record { rest = text; read = 0; phase = SettingUp }

-- the lines of the script so far fall into sections, of which b is the last; what was written is of those before it
pub record Reached (output : Output) (text : List ℕ) (r : Reader) (b : Batch) (w : Written) : Type 0 where
  pub lines : List Numbered
  pub reads : Reads (start text) lines r
  pub done : List Section
  pub last : Section
  pub falls : FallInto lines (done ++ last ∷ [])
  pub batch : IsBatchOf last b
  pub gives : AllGive output done w

-- the script is at its end, and all of its writers are done
pub record Whole (output : Output) (text : List ℕ) (w : Written) : Type 0 where
  pub reader : Reader
  pub batch : Batch
  pub before : Written
  pub own : Written
  pub reached : Reached output text reader batch before
  pub end : reader.rest ≡ []
  pub gives : Gives output batch own
  pub is : w ≡ then before own

-- the next line has an error, and stops its writer
pub record Stopped (output : Output) (text : List ℕ) (e : ScriptError) (w : Written) : Type 0 where
  pub reader : Reader
  pub after : Reader
  pub batch : Batch
  pub before : Written
  pub own : Written
  pub reached : Reached output text reader batch before
  pub fault : Next (Err e) reader after
  pub gives : StoppedGives output batch own
  pub is : w ≡ then before own

-- the writer is run where the script ends, a `new` stands or, for its refusals, a line has an error
abbrev pub Runs : Output → Batch → Result (Option Numbered) ScriptError → Type 0
Runs output b (Ok None) = b.reported ≡ true
Runs output b (Ok (Some n)) = (b.reported ≡ true) × (role n.line ≡ Starts)
Runs output b (Err e) = output ≡ Plain

-- b is to be run now
pub record Due (output : Output) (text : List ℕ) (b : Batch) (w : Written) : Type 0 where
  pub reader : Reader
  pub after : Reader
  pub line : Result (Option Numbered) ScriptError
  pub reached : Reached output text reader b w
  pub next : Next line reader after
  pub runs : Runs output b line

-- a writer does not get its memory, and nothing is written of it
abbrev pub Wants : Output → List ℕ → ScriptError → Written → Type 0
Wants output text e w = (b : Batch) × Due output text b w × WantsMemory b e

-- a writer was run, and what became of it could not be written
abbrev pub Unwritten : Output → List ℕ → Type 0
Unwritten output text = (b : Batch) × (w : Written) × Due output text b w × ((r : Result Ran Refusal) × Becomes b r)

-- what comes of a script; where a write failed, std says nothing of what the outputs hold
abbrev pub Feeds : Output → List ℕ → Result (Unit {0}) Stop → Held → Held → Type 0
Feeds output text (Ok done) old new = (w : Written) × Whole output text w × Gains old new w
Feeds output text (Err (Script e)) old new = (w : Written) × (Stopped output text e w ⊎ Wants output text e w) × Gains old new w
Feeds output text (Err (Io e)) old new = Unwritten output text

-- what comes of a writer that is done
abbrev pub Ends : Output → Batch → Result (Unit {0}) Stop → Held → Held → Type 0
Ends output b (Ok done) old new = (w : Written) × Gives output b w × Gains old new w
Ends output b (Err (Script e)) old new = (b.reported ≡ true) × WantsMemory b e × Gains old new nothing
Ends output b (Err (Io e)) old new = (b.reported ≡ true) × ((r : Result Ran Refusal) × Becomes b r)

-- what comes of a writer that the error e stops
abbrev pub BreaksOff : Output → Batch → ScriptError → Result (Unit {0}) Stop → Held → Held → Type 0
BreaksOff output b e (Ok done) old new = ⊥
BreaksOff output b e (Err (Script f)) old new =
    ((f ≡ e) × (w : Written) × StoppedGives output b w × Gains old new w) ⊎ ((output ≡ Plain) × WantsMemory b f × Gains old new nothing)
BreaksOff output b e (Err (Io f)) old new = (output ≡ Plain) × ((r : Result Ran Refusal) × Becomes b r)

-- the writer that a line ends, if it ends one
abbrev pub EndsOne : Output → Option Batch → Result (Unit {0}) Stop → Held → Held → Type 0
EndsOne output None result old new = (result ≡ Ok tt) × Gains old new nothing
EndsOne output (Some b) result old new = Ends output b result old new

-- what comes of a line, taken into the batch old: one that there is no memory for is an error of the script
abbrev pub Takes : Output → Batch → Numbered → Batch → Result (Unit {0}) Stop → Held → Held → Type 0
Takes output b n b' result old new =
    ((done : Option Batch) × Extends done b n b' × EndsOne output done result old new) ⊎ ((role n.line ≡ Calls) × Stays b b' × BreaksOff output b' (record { line = n.number; fault = Memory }) result old new)

-- the error is one that an output gives, or in a trace, which goes to the one alone, want of memory for a line
abbrev pub Fails : Output → (Error → Type 0) → (Error → Type 0) → Error → Type 0
Fails Plain out err e = out e ⊎ err e
Fails Trace out err e = GivesOrWants out e

-- where something could not be written, the error is such a one
abbrev pub HasGround : Output → (Error → Type 0) → (Error → Type 0) → Result (Unit {0}) Stop → Type 0
HasGround output out err (Ok done) = Unit {0}
HasGround output out err (Err (Script e)) = Unit {0}
HasGround output out err (Err (Io e)) = Fails output out err e
