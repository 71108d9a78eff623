use Rattle.std.proofs.Common.{take}
use Rattle.std.specs.Io.KnownBytes.{Appends}
use Rattle.runner.specs.Printing.{answers_told}
use Rattle.runner.proofs.printing.print_answers.Given as goal

-- the answers so far are printed
abbrev pub invariant-loop-answer : goal.invariant-loop-answer
invariant-loop-answer g l = Appends (g.O.Outlet.contents l.initial.out) (g.O.Outlet.contents l.out) (answers_told (take l.answer-index l.answers))
