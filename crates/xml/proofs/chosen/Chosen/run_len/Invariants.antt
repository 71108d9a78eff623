use Rattle.std.specs.Prelude.{◌≡◌, ◌-◌, ◌≤◌, length, take}
use Rattle.xml.specs.Escaping.{escaped}
use Rattle.xml.specs.Marked.{marked}
use Rattle.xml.proofs.chosen.Chosen.run_len.Given as goal

-- none of the bytes so far is replaced
abbrev pub invariant-loop-len : goal.invariant-loop-len
invariant-loop-len l = (l.len ≤ length l.value) × (escaped (marked l.self.bits) (take l.len l.value) ≡ take l.len l.value)

abbrev pub decreases-loop-len : goal.decreases-loop-len
decreases-loop-len l = length l.value - l.len
