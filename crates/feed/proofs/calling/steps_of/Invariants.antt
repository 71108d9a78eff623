use Rattle.std.proofs.Common.{take}
use Rattle.xml.specs.Escaping.{level_chooses}
use Rattle.writer.specs.Spelled.{CallsAre}
use Rattle.writer.specs.Replayed.{calls_of}
use Rattle.feed.specs.Making.{calls_made}
use Rattle.feed.proofs.calling.steps_of.Given as goal

-- the lines so far have their calls
abbrev pub invariant-loop-line : goal.invariant-loop-line
invariant-loop-line l = CallsAre level_chooses (calls_of l.steps.items) (calls_made (take l.line-index l.lines))
