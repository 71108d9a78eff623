use Rattle.std.proofs.Common.{◌≡◌, ◌<◌, length}
use Rattle.model.specs.Run.{new}
use Rattle.timed.specs.Steps.{calls_of}
use Rattle.timed.specs.Whole.{Leaves, over}
use Rattle.timed.proofs.writing.write_times.Given as goal

-- the last turn so far has left its record
abbrev pub invariant-loop : goal.invariant-loop
invariant-loop l = (l.counter ≡ 0 → l.len ≡ 0) × (0 < l.counter → Leaves (over l.style.empty_elements l.style.indentation (length l.initial.stage) (length l.initial.names)) (calls_of l.sheet) (new (length l.initial.out)) l.len)
