-- A set of bytes below 64 as the bits of a word. Assumes nothing.
use Rattle.std.specs.Prelude.{ℕ, Bool, ◌&&◌, ◌==◌, nat_lt}
use Rattle.std.specs.Int.{bit_at}

-- whether this byte is in the set
abbrev pub marked : ℕ → ℕ → Bool
marked bits b = nat_lt b 64 && bit_at bits b == 1
