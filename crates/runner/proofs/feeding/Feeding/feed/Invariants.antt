use Rattle.std.proofs.Common.{◌≡◌, ◌-◌, ◌^◌}
use Rattle.runner.specs.Feeding.{Written, holds, Gains, Reached}
use Rattle.runner.proofs.feeding.Feeding.feed.Given as goal

-- what is written is of the writers before the one at work
abbrev pub invariant-loop-numbered : goal.invariant-loop-numbered
invariant-loop-numbered g l =
    let contents = g.O.Outlet.contents in
    let errors = g.E.Outlet.contents in
    let output = l.initial.self.output in
    (l.self.output ≡ output) × ((w : Written) × Reached output l.text l.script.reader l.batch w × Gains (holds contents errors l.initial.self) (holds contents errors l.self) w)

abbrev pub decreases-loop-numbered : goal.decreases-loop-numbered
decreases-loop-numbered g l = 2 ^ 64 - l.script.reader.read
