-- When a writer's memory holds a model, and what a call then answers and leaves. Assumes nothing.
use Rattle.std.specs.Prelude.{◌≡◌, ℕ, ◌≤◌, Bool, ◌⊎◌, List, [], ◌∷◌, ◌++◌, length, take, drop, Ok, Err, Result}
use Rattle.refusal.specs.declared.Refusal.{Refusal}
use Rattle.model.specs.Calls.{Rule, Value, val_text, val_variant, Call}
use Rattle.model.specs.Model.{Row, named_row, content_row, Outer, State, idle, between, inside, quote, complete, place}
use Rattle.model.specs.Layout.{stage, names, frames, records, spot_names}
use Rattle.model.specs.Table.{Setting, Verdict, refuse, accept, verdict}
use Rattle.engine.specs.Memory.{Buf, Mem}

-- a text, or a variant's name that may be written as one: these bytes under this rule
abbrev pub IsString : Value → Rule → List ℕ → Type 0
IsString c r s = (c ≡ val_text r s) ⊎ (c ≡ val_variant r s)

-- the part in use is this list
pub record Front {A : Type 0} (b : Buf A) (xs : List A) : Type 0 where
  pub fits : b.used ≤ length b.all
  pub is : take b.used b.all ≡ xs

-- xs is a beginning of ys
abbrev pub Begins : List ℕ → List ℕ → Type 0
Begins xs ys = take (length xs) ys ≡ xs

-- the name stack as each open thing keeps it, innermost first
abbrev pub row_stack : Row → List ℕ
row_stack (named_row u n g) = u ++ n
row_stack (content_row t r g) = t

abbrev pub row_stacks : List Row → List (List ℕ)
row_stacks [] = []
row_stacks (r ∷ rs) = row_stack r ∷ row_stacks rs

abbrev pub outer_stacks : List Outer → List (List ℕ)
outer_stacks [] = []
outer_stacks (o ∷ os) = row_stacks o.rows ++ ((o.level.under ++ o.level.name) ∷ outer_stacks os)

-- each of them is a beginning of the one before it, the first of `xs`
abbrev pub Nested : List ℕ → List (List ℕ) → Type 0
Nested xs [] = Unit {0}
Nested xs (ys ∷ rest) = Begins ys xs × Nested ys rest

-- what open things keep of the name stack is what stands on it
abbrev pub Fit : State → Type 0
Fit idle = Unit {0}
Fit (between l ls) = Nested (l.under ++ l.name) (outer_stacks ls)
Fit (inside s rs l ls) = Nested (spot_names s rs l) (row_stacks rs ++ ((l.under ++ l.name) ∷ outer_stacks ls))
Fit (quote q l ls) = Nested (l.under ++ l.name) (outer_stacks ls)
Fit (complete ms) = Unit {0}

-- whether a text's bytes stand last in the innermost record
abbrev pub Wordy : State → Bool → Type 0
Wordy idle t = Unit {0}
Wordy (between l ls) t = t ≡ l.body.wordy
Wordy (inside s rs l ls) t = t ≡ l.body.wordy
Wordy (quote q l ls) t = t ≡ l.body.wordy
Wordy (complete ms) t = Unit {0}

-- the memory holds the model, whatever the place
pub record Holds (m : State) (w : Mem) : Type 0 where
  pub stage : Front w.stage (stage w.indentation m)
  pub names : Front w.names (names m)
  pub frames : Front w.frames (frames w.indentation m)
  pub records : w.records ≡ records m
  pub wordy : Wordy m w.wordy
  pub fit : Fit m

-- and the place is the model's too
pub record Lays (m : State) (w : Mem) : Type 0 where
  pub holds : Holds m w
  pub place : w.place ≡ place m

-- it is still the same slice, as long as it was, and what lies past the part in use is as it was, as is what lies past all that may be used
pub record Past {A : Type 0} (b c : Buf A) : Type 0 where
  pub size : length c.all ≡ length b.all
  pub past : drop c.used c.all ≡ drop c.used b.all
  pub rest : c.rest ≡ b.rest
  pub reference : c.reference ≡ b.reference

-- past the parts in use nothing has changed, nor has the style
pub record Beyond (w v : Mem) : Type 0 where
  pub stage : Past w.stage v.stage
  pub names : Past w.names v.names
  pub frames : Past w.frames v.frames
  pub form : v.form ≡ w.form
  pub indentation : v.indentation ≡ w.indentation

-- a writer of this style over these slices
abbrev pub setting : Mem → Setting
setting w = record { form = w.form; indentation = w.indentation; memory = record { stage = length w.stage.all; names = length w.names.all; frames = length w.frames.all } }

-- what a verdict asks: on a refusal that answer, and nothing has changed; else the memory holds the next model
abbrev pub Told : Verdict → Result (Unit {0}) Refusal → Mem → Mem → Type 0
Told (refuse e) r w v = (r ≡ Err e) × (v ≡ w)
Told (accept m) r w v = (r ≡ Ok tt) × Lays m v × Beyond w v

-- the call, at this room of the sink, on every model that the memory holds
abbrev pub Does : Call → ℕ → Result (Unit {0}) Refusal → Mem → Mem → Type 0
Does c room r w v = (m : State) → Lays m w → Told (verdict (setting w) room c m) r w v
