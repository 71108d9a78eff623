-- What is true of a writer's memory at every moment. Assumes nothing.
use Rattle.std.specs.Prelude.{◌≤◌, length}
use Rattle.model.specs.Model.{State}
use Rattle.engine.specs.Memory.{Mem, indent_size}
use Rattle.engine.specs.Lays.{Lays}

-- the memory holds some model
abbrev pub Sound : Mem → Type 0
Sound w = ∥ ((m : State) × Lays m w) ∥₁

-- no slice is longer than what a writer ever uses, and an indent is no wider than a style allows
pub record Sizes (w : Mem) : Type 0 where
  pub stage : length w.stage.all ≤ 65536
  pub names : length w.names.all ≤ 4096
  pub frames : length w.frames.all ≤ 64
  pub indent : indent_size w.indentation ≤ 16
