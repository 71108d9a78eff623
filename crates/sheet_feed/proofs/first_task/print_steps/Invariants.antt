use Rattle.std.proofs.Common.{◌≡◌, ℕ, List, ◌++◌}
use Rattle.std.specs.Io.KnownBytes.{Appends}
use Rattle.sheet_feed.specs.FirstTask.{steps_told}
use Rattle.sheet_feed.proofs.Steps.{texts}
use Rattle.sheet_feed.proofs.first_task.print_steps.Given as goal

-- what is printed so far is what comes before the calls that are left
abbrev pub invariant-loop-text : goal.invariant-loop-text
invariant-loop-text g l =
    (x : List ℕ) × Appends (g.O.Outlet.contents l.initial.out) (g.O.Outlet.contents l.out) x × (x ++ steps_told (texts l.text-iterator.a.rest.now) l.text-iterator.b.rest.now ≡ steps_told (texts l.calls) l.answers)
