-- Decimal numbers: one digit or more, leading zeros allowed, no sign, up to a limit. Assumes nothing.
use Rattle.std.specs.Prelude.{ℕ, ◌+◌, ◌-◌, ◌*◌, Bool, cond, ◌&&◌, List, [], ◌∷◌, Some, None, Ok, Err, Option, Result, nat_le}
use Rattle.script.specs.declared.fault.Fault.{Fault}
use Rattle.script.specs.declared.fault.Fault.TheVariants.{BadNumber}

abbrev pub is_digit : ℕ → Bool
is_digit c = nat_le 48 c && nat_le c 57

-- the number that further digits make of n, where all of them are digits
abbrev pub more_digits : ℕ → List ℕ → Option ℕ
more_digits n [] = Some n
more_digits n (c ∷ cs) = cond (is_digit c) (more_digits (n * 10 + (c - 48)) cs) None

-- the number that digits write
abbrev pub decimal_value : List ℕ → Option ℕ
decimal_value [] = None
decimal_value (c ∷ cs) = more_digits 0 (c ∷ cs)

abbrev pub up_to : ℕ → Option ℕ → Result ℕ Fault
up_to most None = Err BadNumber
up_to most (Some n) = cond (nat_le n most) (Ok n) (Err BadNumber)

-- the number that a text writes, if it is one from 0 to the limit
abbrev pub number_of : ℕ → List ℕ → Result ℕ Fault
number_of most bs = up_to most (decimal_value bs)
