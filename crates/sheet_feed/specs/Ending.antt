-- How a run ends: what was run or shown, and the exit status that says so. Assumes nothing.
use Rattle.std.specs.Prelude.{ℕ, List, None, Option, Ok, Result, map}
use Rattle.std.specs.declared.process.ExitCode.{ExitCode}
use Rattle.runner.specs.declared.feeding.Output.{Output}
use Rattle.runner.specs.declared.stop.Stop.{Stop}
use Rattle.runner.specs.Feeding.{Held, Feeds}
use Rattle.sheet_feed.specs.declared.first_task.TheConstants.{STYLE, CALLS}
use Rattle.sheet_feed.specs.Exits.{Exits}
use Rattle.sheet_feed.specs.FirstTask.{Shows}

-- what the two outputs hold, where that is known
abbrev pub held : Option (List ℕ) → Option (List ℕ) → Held
held out err = record { out = out; err = err }

-- the script is run so on the outputs of the process, of which std does not say what they hold, and the exit status says how it went
abbrev pub ExitsFed : Output → List ℕ → ExitCode → Type 0
ExitsFed output script status = (fed : Result (Unit {0}) Stop) × Feeds output script fed (held None None) (held None None) × Exits fed (Ok status)

-- what is shown of the built-in record
abbrev pub ShowsFirst : Result (Unit {0}) Stop → Option (List ℕ) → Option (List ℕ) → Type 0
ShowsFirst shown old new = Shows STYLE.now (map (λ call. call.now) CALLS) shown old new

-- it is shown on the output of the process, and the exit status says how it went
abbrev pub ExitsShown : ExitCode → Type 0
ExitsShown status = (shown : Result (Unit {0}) Stop) × ShowsFirst shown None None × Exits shown (Ok status)
