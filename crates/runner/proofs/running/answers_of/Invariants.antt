use Rattle.std.proofs.Common.{◌≡◌, take}
use Rattle.writer.specs.Replayed.{answers_of}
use Rattle.runner.proofs.running.answers_of.Given as goal

-- the answers so far
abbrev pub invariant-loop-step : goal.invariant-loop-step
invariant-loop-step l = l.answers.items ≡ answers_of (take l.step-index l.steps)
