-- The exit status of a run. Assumes nothing.
use Rattle.std.specs.Prelude.{◌≡◌, Ok, Err, Result, IsOkAnd, IfOk, IsErr}
use Rattle.std.specs.Process.{exit_status}
use Rattle.std.specs.declared.process.ExitCode.{ExitCode}
use Rattle.std.specs.declared.io.Error.{Error}
use Rattle.runner.specs.declared.stop.Stop.{Stop}
use Rattle.runner.specs.declared.stop.Stop.TheVariants.{Script, Io}

-- 0 where the script was run, 1 where it is at fault or gets no memory; what could not be written stays an error
abbrev pub Exits : Result (Unit {0}) Stop → Result ExitCode Error → Type 0
Exits (Ok done) r = IsOkAnd r (λ status. exit_status status ≡ 0)
Exits (Err (Script e)) r = IfOk r (λ status. exit_status status ≡ 1)
Exits (Err (Io e)) r = IsErr r
