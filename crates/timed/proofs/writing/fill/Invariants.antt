use Rattle.std.proofs.Common.{map}
use Rattle.engine.specs.Memory.{mem}
use Rattle.timed.specs.Steps.{call_of_part}
use Rattle.timed.proofs.Turns.{SoFar}
use Rattle.timed.proofs.writing.fill.Given as goal

-- the parts so far are accepted
abbrev pub invariant-loop-part : goal.invariant-loop-part
invariant-loop-part l = SoFar (map call_of_part l.parts) (mem l.initial.writer.core) l.part-index (mem l.writer.core)
