use Rattle.std.specs.Prelude.{◌≡◌, ◌+◌, ◌-◌, ◌^◌, min, length, take}
use Rattle.xml.specs.Escaping.{escaped}
use Rattle.xml.specs.Marked.{marked}
use Rattle.xml.proofs.chosen.Chosen.size_of.Given as goal

-- the bytes so far as they are written, and the others as they are
abbrev pub invariant-loop-byte : goal.invariant-loop-byte
invariant-loop-byte l = l.len ≡ min (length (escaped (marked l.self.bits) (take l.byte-index l.value)) + (length l.value - l.byte-index)) (2 ^ 64 - 1)
