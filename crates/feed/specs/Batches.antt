-- How the lines of a script fall into batches, one for each writer. Assumes nothing.
use Rattle.std.specs.Prelude.{◌≡◌, ℕ, Bool, true, false, ◌||◌, [], ◌∷◌, ◌++◌, Some, None, Option, vec_items}
use Rattle.script.specs.declared.line.Line.{Line}
use Rattle.script.specs.declared.line.Line.TheVariants.{Blank, New, Style, Memory, Sink, Level, Open, Field, Text, Nothing, Variant, Wrapped, Row, VariantRow, Record, VariantRecord, End, Finish, Abandon}
use Rattle.script.specs.declared.order.Role.{Role}
use Rattle.script.specs.declared.order.Role.TheVariants as role
use Rattle.script.specs.declared.order.Role.TheVariants.{Starts, Anywhere, Calls}
use Rattle.script.specs.Order as order
use Rattle.feed.specs.declared.call_line.CallLine.{CallLine}
use Rattle.feed.specs.declared.batch.Batch.{Batch}
use Rattle.feed.specs.Setups.{defaults, setup_after}

abbrev pub says_something : Line → Bool
says_something Blank = false
says_something New = true
says_something (Style layout) = true
says_something (Memory sizes) = true
says_something (Sink choice) = true
says_something (Level level) = true
says_something (Open name) = true
says_something (Field key) = true
says_something (Text string) = true
says_something Nothing = true
says_something (Variant name) = true
says_something (Wrapped name) = true
says_something Row = true
says_something (VariantRow name) = true
says_something (Record name) = true
says_something (VariantRecord name) = true
says_something End = true
says_something Finish = true
says_something Abandon = true

-- a writer that begins at line n, with every setting at its default and no call yet
pub record Begins (b : Batch) (n : ℕ) (reported : Bool) : Type 0 where
  pub setup : b.setup ≡ defaults n
  pub calls : vec_items b.calls ≡ []
  pub reports : b.reported ≡ reported

-- line n, a call, stands last behind the calls before it, with the rule that holds there
pub record AddsCall (old : Batch) (n : ℕ) (line : Line) (new : Batch) : Type 0 where
  pub added : CallLine
  pub calls : vec_items new.calls ≡ vec_items old.calls ++ added ∷ []
  pub number : added.number ≡ n
  pub text : added.line ≡ line
  pub rule : added.level ≡ old.setup.level
  pub setup : new.setup ≡ old.setup
  pub reports : new.reported ≡ true

-- line n is no call: it may change the settings, and no call
pub record Sets (old : Batch) (n : ℕ) (line : Line) (new : Batch) : Type 0 where
  pub setup : new.setup ≡ setup_after old.setup n line
  pub calls : vec_items new.calls ≡ vec_items old.calls
  pub reports : new.reported ≡ old.reported || says_something line

-- the settings and the calls are as before
pub record Stays (old new : Batch) : Type 0 where
  pub setup : new.setup ≡ old.setup
  pub calls : vec_items new.calls ≡ vec_items old.calls
  pub reports : new.reported ≡ old.reported

-- what is handed out for line n, which plays this part, and the batch after it: `new` hands out the batch before it and begins one
abbrev pub GoesAs : Role → Option Batch → Batch → ℕ → Line → Batch → Type 0
GoesAs Starts done old n line new = (done ≡ Some old) × Begins new n true
GoesAs Calls done old n line new = (done ≡ None) × AddsCall old n line new
GoesAs role.Sets done old n line new = (done ≡ None) × Sets old n line new
GoesAs Anywhere done old n line new = (done ≡ None) × Sets old n line new

abbrev pub Goes : Option Batch → Batch → ℕ → Line → Batch → Type 0
Goes done old n line new = GoesAs (order.role line) done old n line new
