use Rattle.std.specs.Prelude.{◌≡◌, ℕ, List, ◌++◌, length, take}
use Rattle.xml.specs.Escaping.{escaped}
use Rattle.xml.specs.Marked.{marked}
use Rattle.xml.proofs.chosen.Chosen.sure_len.Given as goal

-- none of the bytes in front of what is left is replaced
abbrev pub invariant-loop-rest : goal.invariant-loop-rest
invariant-loop-rest l = (done : List ℕ) × (l.value ≡ done ++ l.rest) × (escaped (marked l.self.bits) done ≡ done)

abbrev pub decreases-loop-rest : goal.decreases-loop-rest
decreases-loop-rest l = length l.rest

-- nor of the last ones so far
abbrev pub invariant-loop-i : goal.invariant-loop-i
invariant-loop-i l = escaped (marked l.self.bits) (take l.i l.rest) ≡ take l.i l.rest
