use Rattle.std.proofs.Common.{◌≡◌}
use Rattle.std.specs.Option.{is_some}
use Rattle.engine.specs.Memory.{mem}
use Rattle.writer.specs.Replayed.{calls_of, answers_of}
use Rattle.writer.proofs.Stepping.{SoFar}
use Rattle.writer.proofs.writer.Writer.replay.Given as goal

-- the steps keep their calls, and those so far are made with their answers stored
abbrev pub invariant-loop-i : goal.invariant-loop-i
invariant-loop-i g l =
    (calls_of l.steps ≡ calls_of l.initial.steps)
    × SoFar g.S.Sink.held g.S.Sink.room g.S.Sink.leaves (is_some l.initial.held) (mem l.initial.self.core) l.initial.sink g.R.EscapeRule.chooses (calls_of l.initial.steps) l.i (answers_of l.steps) (mem l.self.core) l.sink (is_some l.held)
