-- What a line says: nothing, or one word with its argument; and what is wrong with a line that says neither. Assumes nothing.
use Rattle.std.specs.Prelude.{◌≡◌, ℕ, true, false, ◌⊎◌, List, [], is_some, Some, None, Ok, vec_items}
use Rattle.std.specs.Option.{unwrap_or}
use Rattle.script.specs.declared.fault.Fault.{Fault}
use Rattle.script.specs.declared.fault.Fault.TheVariants as fault
use Rattle.script.specs.declared.words.Word.{Word}
use Rattle.script.specs.declared.words.Word.TheVariants as word
use Rattle.script.specs.declared.line.Line.{Line}
use Rattle.script.specs.declared.line.Line.TheVariants.{Blank, New, Style, Memory, Sink, Level, Open, Field, Text, Nothing, Variant, Wrapped, Row, VariantRow, Record, VariantRecord, End, Finish, Abandon}
use Rattle.script.specs.Cuts.{word_text, after_word, blank}
use Rattle.script.specs.Escapes.{unescaped}
use Rattle.script.specs.Words.{spelling, takes_argument, Unknown}
use Rattle.script.specs.Settings.{layout_of, sizes_of, sink_of, level_of, Wrong}

-- the argument as it is written: all behind the first space, and nothing where there is none
abbrev pub argument_text : List ℕ → List ℕ
argument_text line = unwrap_or (after_word line) []

-- the line begins with this word, which stands alone if it takes no argument
pub record Begins (line : List ℕ) (w : Word) : Type 0 where
  pub says : blank line ≡ false
  pub word : word_text line ≡ spelling w
  pub alone : takes_argument w ≡ false → after_word line ≡ None

-- what a word with this argument means
abbrev pub Means : Line → Word → List ℕ → Type 0
Means Blank w bs = ⊥
Means New w bs = w ≡ word.New
Means (Style layout) w bs = (w ≡ word.Style) × (layout_of bs ≡ Ok layout)
Means (Memory sizes) w bs = (w ≡ word.Memory) × (sizes_of bs ≡ Ok sizes)
Means (Sink choice) w bs = (w ≡ word.Sink) × (sink_of bs ≡ Ok choice)
Means (Level level) w bs = (w ≡ word.Level) × (level_of bs ≡ Ok level)
Means (Open name) w bs = (w ≡ word.Open) × (vec_items name ≡ bs)
Means (Field key) w bs = (w ≡ word.Field) × (vec_items key ≡ bs)
Means (Text string) w bs = (w ≡ word.Text) × (vec_items string ≡ bs)
Means Nothing w bs = w ≡ word.Nothing
Means (Variant name) w bs = (w ≡ word.Variant) × (vec_items name ≡ bs)
Means (Wrapped name) w bs = (w ≡ word.Wrapped) × (vec_items name ≡ bs)
Means Row w bs = w ≡ word.Row
Means (VariantRow name) w bs = (w ≡ word.VariantRow) × (vec_items name ≡ bs)
Means (Record name) w bs = (w ≡ word.Record) × (vec_items name ≡ bs)
Means (VariantRecord name) w bs = (w ≡ word.VariantRecord) × (vec_items name ≡ bs)
Means End w bs = w ≡ word.End
Means Finish w bs = w ≡ word.Finish
Means Abandon w bs = w ≡ word.Abandon

-- the line is this word, with this argument after its escapes are read
pub record Spoken (line : List ℕ) (w : Word) (bs : List ℕ) : Type 0 where
  pub begins : Begins line w
  pub argument : unescaped (argument_text line) ≡ Some bs

-- what a line says
abbrev pub Says : Line → List ℕ → Type 0
Says l line = ((blank line ≡ true) × (l ≡ Blank)) ⊎ ((w : Word) × (bs : List ℕ) × Spoken line w bs × Means l w bs)

-- what is wrong with a line; want of memory can come at any line that says something
abbrev pub Faulty : Fault → List ℕ → Type 0
Faulty fault.UnknownWord line = (blank line ≡ false) × Unknown (word_text line)
Faulty fault.UnwantedArgument line = (w : Word) × (word_text line ≡ spelling w) × (takes_argument w ≡ false) × (is_some (after_word line) ≡ true)
Faulty fault.BadEscape line = (w : Word) × Begins line w × (unescaped (argument_text line) ≡ None)
Faulty fault.BadNumber line = (w : Word) × (bs : List ℕ) × Spoken line w bs × Wrong w bs fault.BadNumber
Faulty fault.BadSetting line = (w : Word) × (bs : List ℕ) × Spoken line w bs × Wrong w bs fault.BadSetting
Faulty fault.TooLate line = ⊥
Faulty fault.Memory line = blank line ≡ false
