-- Numbers that hold for every memory that lays a model at an element or a content place. Assumes nothing.
use Rattle.std.proofs.Common.{◌≡◌, ℕ, ◌<◌, ◌≤◌, Bool, ◌++◌, arith}
use Rattle.std.proofs.lemmas.List.{length-append}
use Rattle.model.specs.declared.place.Place.TheVariants.{Element, Content}
use Rattle.model.specs.Model.{State, element, content}
use Rattle.engine.specs.Memory.{Mem}
use Rattle.engine.specs.Lays.{Lays}
use Rattle.engine.proofs.Fronts.{front_length}
use Rattle.engine.proofs.Spots.{on_element, on_content}
use Rattle.engine.proofs.Values.{open_inside}

-- something is open
pub content_open : (m : State) (w : Mem) (p : Bool) → Lays m w → w.place ≡ Content p → 0 < w.frames.used
content_open m w p lay at = on_content (λ x. 0 < w.frames.used) w p m lay at (λ rs l ls z. open_inside (content p) rs l ls w z.holds)

pub element_open : (m : State) (w : Mem) (from : ℕ) → Lays m w → w.place ≡ Element from → 0 < w.frames.used
element_open m w from lay at = on_element (λ x. 0 < w.frames.used) w from m lay at (λ u n rs l ls d z. open_inside (element u n) rs l ls w z.holds)

-- the name at an element place begins on the name stack
pub element_named : (m : State) (w : Mem) (from : ℕ) → Lays m w → w.place ≡ Element from → from ≤ w.names.used
element_named m w from lay at =
    on_element (λ x. from ≤ w.names.used) w from m lay at (λ u n rs l ls d z. omega (arith, d, front_length w.names (u ++ n) z.holds.names, length-append u n))
