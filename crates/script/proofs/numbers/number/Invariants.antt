use Rattle.std.proofs.Common.{◌≡◌, ◌≤◌, drop}
use Rattle.script.specs.Numbers.{more_digits}
use Rattle.script.proofs.numbers.number.Given as goal

-- the number so far and the digits left make the number of the whole
abbrev pub invariant-loop-c : goal.invariant-loop-c
invariant-loop-c l = (l.value ≤ l.most) × (more_digits l.value (drop l.c-index l.text) ≡ more_digits 0 l.text)
