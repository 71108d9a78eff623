-- What is shown of a script, byte for byte. Assumes nothing.
use Rattle.std.specs.Prelude.{◌≡◌, ◌⊎◌, ℕ, List, ◌++◌, Option, codes}
use Rattle.std.specs.Io.KnownBytes.{Appends}
use Rattle.script.specs.declared.fault.ScriptError.{ScriptError}
use Rattle.script.specs.Faults.{told}
use Rattle.runner.specs.declared.feeding.Output.{Output}
use Rattle.runner.specs.declared.feeding.Output.TheVariants.{Plain, Trace}
use Rattle.runner.specs.Printing.{ended}
use Rattle.runner.specs.Feeding.{Written, Whole, Stopped, Wants}

-- what a script gives, and what is told beside it; an error that stops it is told last
abbrev pub Gives : Output → List ℕ → Written → Type 0
Gives output script w =
    Whole output script w
    ⊎ ((v : Written) × (e : ScriptError) × (Stopped output script e v ⊎ Wants output script e v) × (w ≡ record { out = v.out; err = v.err ++ ended (told e.line e.fault) }))

-- the trace and what is told beside it, a line that parts, and the XML, on a line, and what is told beside that
abbrev pub page : Written → Written → List ℕ
page trace xml = trace.out ++ (trace.err ++ (ended (codes "--") ++ (ended xml.out ++ xml.err)))

-- the name of a script, on a line, and its page below it, and not a byte more
abbrev pub Shows : List ℕ → List ℕ → Option (List ℕ) → Option (List ℕ) → Type 0
Shows name script old new = (trace : Written) × (xml : Written) × Gives Trace script trace × Gives Plain script xml × Appends old new (ended (codes "== " ++ name) ++ page trace xml)
