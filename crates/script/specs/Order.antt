-- Where set-up words may stand: before the first call of their writer. Assumes nothing.
use Rattle.std.specs.Prelude.{◌≡◌, List, [], ◌∷◌, ◌++◌, Ok, Err, Result}
use Rattle.script.specs.declared.fault.Fault.{Fault}
use Rattle.script.specs.declared.fault.Fault.TheVariants.{TooLate}
use Rattle.script.specs.declared.order.Role.{Role}
use Rattle.script.specs.declared.order.Role.TheVariants.{Starts, Sets, Anywhere, Calls}
use Rattle.script.specs.declared.order.Phase.{Phase}
use Rattle.script.specs.declared.order.Phase.TheVariants.{SettingUp, Calling}
use Rattle.script.specs.declared.line.Line.{Line}
use Rattle.script.specs.declared.line.Line.TheVariants.{Blank, New, Style, Memory, Sink, Level, Open, Field, Text, Nothing, Variant, Wrapped, Row, VariantRow, Record, VariantRecord, End, Finish, Abandon}

-- what a line does to the order
abbrev pub role : Line → Role
role Blank = Anywhere
role New = Starts
role (Style layout) = Sets
role (Memory sizes) = Sets
role (Sink choice) = Sets
role (Level level) = Anywhere
role (Open name) = Calls
role (Field key) = Calls
role (Text string) = Calls
role Nothing = Calls
role (Variant name) = Calls
role (Wrapped name) = Calls
role Row = Calls
role (VariantRow name) = Calls
role (Record name) = Calls
role (VariantRecord name) = Calls
role End = Calls
role Finish = Calls
role Abandon = Calls

-- the phase after a line
abbrev pub follows : Phase → Role → Result Phase Fault
follows SettingUp Starts = Ok SettingUp
follows SettingUp Sets = Ok SettingUp
follows SettingUp Anywhere = Ok SettingUp
follows SettingUp Calls = Ok Calling
follows Calling Starts = Ok SettingUp
follows Calling Sets = Err TooLate
follows Calling Anywhere = Ok Calling
follows Calling Calls = Ok Calling

-- the phase after several lines, unless one came too late
abbrev pub after_all : Phase → List Role → Result Phase Fault
after_all p [] = Ok p
after_all p (r ∷ rs) = elim (follows p r) [ Ok q ↦ after_all q rs | Err e ↦ Err e ]

-- none of these lines begins a new writer
abbrev pub SameWriter : List Role → Type 0
SameWriter [] = Unit {0}
SameWriter (Starts ∷ rs) = ⊥
SameWriter (Sets ∷ rs) = SameWriter rs
SameWriter (Anywhere ∷ rs) = SameWriter rs
SameWriter (Calls ∷ rs) = SameWriter rs

-- a set-up word stands behind a call of the same writer
pub record Late (rs : List Role) : Type 0 where
  pub front : List Role
  pub between : List Role
  pub rest : List Role
  pub is : rs ≡ front ++ Calls ∷ (between ++ Sets ∷ rest)
  pub same : SameWriter between

-- a script is stopped for its order exactly where a set-up word stands behind a call of the same writer
abbrev pub SetUpFirst : Type 0
SetUpFirst = (rs : List Role) → (after_all SettingUp rs ≡ Err TooLate → Late rs) × (Late rs → after_all SettingUp rs ≡ Err TooLate)
