use Rattle.std.proofs.Common.{◌≡◌, ℕ, List, ◌++◌}
use Rattle.std.specs.Io.KnownBytes.{Appends}
use Rattle.runner.specs.Printing.{refused_told}
use Rattle.runner.proofs.printing.print_refused.Given as goal

-- what is printed so far is what comes before the calls that are left
abbrev pub invariant-loop-call : goal.invariant-loop-call
invariant-loop-call g l =
    (x : List ℕ) × Appends (g.E.Outlet.contents l.initial.err) (g.E.Outlet.contents l.err) x × (x ++ refused_told l.call-iterator.a.rest.now l.call-iterator.b.rest.now ≡ refused_told l.calls l.answers)
