use Rattle.std.specs.Prelude.{◌≡◌, ℕ, List, ◌++◌, length}
use Rattle.xml.specs.Escaping.{escaped}
use Rattle.xml.specs.Marked.{marked}
use Rattle.xml.proofs.Pieces.{Placed}
use Rattle.xml.proofs.chosen.Chosen.lay.Given as goal

-- what is placed comes before what is left
abbrev pub invariant-loop-behind : goal.invariant-loop-behind
invariant-loop-behind l =
    let p = marked l.self.bits in
    (done : List ℕ) × (escaped p l.value ≡ done ++ escaped p l.rest) × Placed l.initial.out l.at done l.end l.out

abbrev pub decreases-loop-behind : goal.decreases-loop-behind
decreases-loop-behind l = length l.rest
