-- What the bytes of an argument stand for: itself each, but for the escapes, which begin with a backslash. Assumes nothing.
use Rattle.std.specs.Prelude.{ℕ, ◌+◌, ◌-◌, ◌*◌, ◌<◌, cond, ◌&&◌, List, [], ◌∷◌, ◌++◌, Some, None, Option, ◌==◌, nat_le}
use Rattle.script.specs.declared.escapes.Place.{Place}
use Rattle.script.specs.declared.escapes.Place.TheVariants.{Outside, Slash, Digits, Digit}
use Rattle.script.specs.declared.escapes.Step.{Step}
use Rattle.script.specs.declared.escapes.Step.TheVariants.{Byte, On}

-- the value of a hexadecimal digit, in either case
abbrev pub hex_digit : ℕ → Option ℕ
hex_digit c =
    cond (nat_le 48 c && nat_le c 57) (Some (c - 48)) (cond (nat_le 97 c && nat_le c 102) (Some (c - 87)) (cond (nat_le 65 c && nat_le c 70) (Some (c - 55)) None))

-- behind a backslash: n is line feed, r carriage return, t tab, a backslash itself, and x begins two digits
abbrev pub escape_letter : ℕ → Option Step
escape_letter c =
    cond (c == 110) (Some (Byte 10)) (cond (c == 114) (Some (Byte 13)) (cond (c == 116) (Some (Byte 9)) (cond (c == 92) (Some (Byte 92)) (cond (c == 120) (Some (On Digits)) None))))

abbrev pub first_digit : Option ℕ → Option Step
first_digit None = None
first_digit (Some high) = Some (On (Digit high))

abbrev pub second_digit : ℕ → Option ℕ → Option Step
second_digit high None = None
second_digit high (Some low) = Some (Byte (high * 16 + low))

-- what one more byte gives at a place: a byte of the argument, or a place within an escape, or nothing where no escape goes on like this
abbrev pub escape_step : Place → ℕ → Option Step
escape_step Outside c = cond (c == 92) (Some (On Slash)) (Some (Byte c))
escape_step Slash c = escape_letter c
escape_step Digits c = first_digit (hex_digit c)
escape_step (Digit high) c = second_digit high (hex_digit c)

-- bytes, with more in front of them, where there are any
abbrev pub led : List ℕ → Option (List ℕ) → Option (List ℕ)
led front None = None
led front (Some bs) = Some (front ++ bs)

-- an argument may end only outside an escape
abbrev pub ended : Place → Option (List ℕ)
ended Outside = Some []
ended Slash = None
ended Digits = None
ended (Digit high) = None

-- a step, and what follows it from the place that it leads to
abbrev pub onward : Option Step → (Place → Option (List ℕ)) → Option (List ℕ)
onward (Some (Byte v)) later = led (v ∷ []) (later Outside)
onward (Some (On p)) later = later p
onward None later = None

-- what the rest of an argument stands for, from a place on
abbrev pub unescaped_from : Place → List ℕ → Option (List ℕ)
unescaped_from p [] = ended p
unescaped_from p (b ∷ bs) = onward (escape_step p b) (λ q. unescaped_from q bs)

-- what an argument stands for, and nothing where it has a bad escape
abbrev pub unescaped : List ℕ → Option (List ℕ)
unescaped bs = unescaped_from Outside bs

-- a digit that waits for its second is one
abbrev pub Sound : Place → Type 0
Sound Outside = Unit {0}
Sound Slash = Unit {0}
Sound Digits = Unit {0}
Sound (Digit high) = high < 16

-- the place that a step leads to is sound
abbrev pub LeadsSoundly : Option Step → Type 0
LeadsSoundly (Some (Byte v)) = Unit {0}
LeadsSoundly (Some (On p)) = Sound p
LeadsSoundly None = Unit {0}
