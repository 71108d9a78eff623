use Rattle.std.proofs.Common.{◌≡◌, map, take}
use Rattle.timed.specs.Steps.{call_of_step, call_of_part}
use Rattle.timed.proofs.record.parts_of.Given as goal

-- the steps so far are parts
abbrev pub invariant-loop-step : goal.invariant-loop-step
invariant-loop-step l = map call_of_part l.parts.items ≡ take l.step-index (map (call_of_step l.text) l.steps)
