use Rattle.std.proofs.Common.{length}
use Rattle.std.specs.Str.Lines.{lines}
use Rattle.compared.proofs.Leading.{Far}
use Rattle.compared.proofs.compare.Given as goal

-- so many lines are taken as were yielded
abbrev pub invariant-loop-number : goal.invariant-loop-number
invariant-loop-number l = Far (lines l.sheets) (length l.yielded) l.batch l.tally
