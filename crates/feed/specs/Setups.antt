-- Which settings hold after a line, and which line each of them comes from. Assumes nothing.
use Rattle.std.specs.Prelude.{◌≡◌, ◌≢◌, ◌⊎◌, ℕ, List, [], ◌∷◌, ◌++◌, Some, None, Option}
use Rattle.style.specs.declared.style.EmptyElementHandling.TheVariants.{SelfClosed}
use Rattle.xml.specs.declared.escape.QuoteLevel.{QuoteLevel}
use Rattle.xml.specs.declared.escape.QuoteLevel.TheVariants.{Partial}
use Rattle.script.specs.declared.settings.Layout.{Layout}
use Rattle.script.specs.declared.settings.Sizes.{Sizes}
use Rattle.script.specs.declared.settings.SinkChoice.{SinkChoice}
use Rattle.script.specs.declared.settings.SinkChoice.TheVariants.{Buffer}
use Rattle.script.specs.declared.line.Line.{Line}
use Rattle.script.specs.declared.line.Line.TheVariants.{Blank, New, Style, Memory, Sink, Level, Open, Field, Text, Nothing, Variant, Wrapped, Row, VariantRow, Record, VariantRecord, End, Finish, Abandon}
use Rattle.script.specs.declared.line.Numbered.{Numbered}
use Rattle.script.specs.declared.order.Role.TheVariants.{Starts}
use Rattle.script.specs.Order.{role}
use Rattle.feed.specs.declared.setup.Setting.{Setting}
use Rattle.feed.specs.declared.setup.Setup.{Setup}

-- the settings of a writer that begins at this line
abbrev pub defaults : ℕ → Setup
defaults n = record {
  style = record { value = record { empty_elements = SelfClosed; indentation = None }; line = n };
  memory = record { value = record { stage = 65536; names = 4096; frames = 64 }; line = n };
  sink = record { value = Buffer 65536; line = n };
  level = Partial;
}

-- what holds after line n
abbrev pub setup_after : Setup → ℕ → Line → Setup
setup_after s n New = defaults n
setup_after s n (Style layout) = record { style = record { value = layout; line = n }; memory = s.memory; sink = s.sink; level = s.level }
setup_after s n (Memory sizes) = record { style = s.style; memory = record { value = sizes; line = n }; sink = s.sink; level = s.level }
setup_after s n (Sink choice) = record { style = s.style; memory = s.memory; sink = record { value = choice; line = n }; level = s.level }
setup_after s n (Level l) = record { style = s.style; memory = s.memory; sink = s.sink; level = l }
setup_after s n Blank = s
setup_after s n (Open name) = s
setup_after s n (Field key) = s
setup_after s n (Text string) = s
setup_after s n Nothing = s
setup_after s n (Variant name) = s
setup_after s n (Wrapped name) = s
setup_after s n Row = s
setup_after s n (VariantRow name) = s
setup_after s n (Record name) = s
setup_after s n (VariantRecord name) = s
setup_after s n End = s
setup_after s n Finish = s
setup_after s n Abandon = s

-- the settings after several lines
abbrev pub setup_after_all : Setup → List Numbered → Setup
setup_after_all s [] = s
setup_after_all s (n ∷ ns) = setup_after_all (setup_after s n.number n.line) ns

-- what a line sets, with its number, or nothing
abbrev pub style_in : ℕ → Line → Option (Setting Layout)
style_in n (Style layout) = Some (record { value = layout; line = n })
style_in n _ = None

abbrev pub memory_in : ℕ → Line → Option (Setting Sizes)
memory_in n (Memory sizes) = Some (record { value = sizes; line = n })
memory_in n _ = None

abbrev pub sink_in : ℕ → Line → Option (Setting SinkChoice)
sink_in n (Sink choice) = Some (record { value = choice; line = n })
sink_in n _ = None

abbrev pub level_in : ℕ → Line → Option QuoteLevel
level_in n (Level l) = Some l
level_in n _ = None

abbrev pub Each : {A : Type 0} → (A → Type 0) → List A → Type 0
Each P [] = Unit {0}
Each P (x ∷ xs) = P x × Each P xs

-- the line is no `new`
abbrev pub GoesOn : Numbered → Type 0
GoesOn n = role n.line ≢ Starts

-- none of these lines sets it
abbrev pub NoneSets : {A : Type 0} → (ℕ → Line → Option A) → List Numbered → Type 0
NoneSets set ns = Each (λ n. set n.number n.line ≡ None) ns

-- the last of these lines that sets it sets it to x
pub record LastSets {A : Type 0} (set : ℕ → Line → Option A) (ns : List Numbered) (x : A) : Type 0 where
  pub front : List Numbered
  pub line : Numbered
  pub rest : List Numbered
  pub is : ns ≡ front ++ line ∷ rest
  pub sets : set line.number line.line ≡ Some x
  pub none : NoneSets set rest

-- x is what the last of these lines sets it to, or as before where none sets it
abbrev pub Counts : {A : Type 0} → (ℕ → Line → Option A) → A → List Numbered → A → Type 0
Counts set before ns x = (NoneSets set ns × (x ≡ before)) ⊎ LastSets set ns x

-- of several lines that set the same the last one counts, and a line leaves what it does not set
abbrev pub LastCounts : Type 0
LastCounts =
    (s : Setup) (ns : List Numbered) → Each GoesOn ns → Counts style_in s.style ns (setup_after_all s ns).style × Counts memory_in s.memory ns (setup_after_all s ns).memory × Counts sink_in s.sink ns (setup_after_all s ns).sink × Counts level_in s.level ns (setup_after_all s ns).level
