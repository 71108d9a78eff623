-- The words of a script: how each is written, and whether it takes an argument. Assumes nothing.
use Rattle.std.specs.Prelude.{◌≡◌, ℕ, Bool, true, false, List, [], ◌∷◌, Some, None, codes, Option, ◌≢◌}
use Rattle.script.specs.declared.words.Word.{Word}
use Rattle.script.specs.declared.words.Word.TheVariants.{New, Style, Memory, Sink, Level, Open, Field, Text, Nothing, Variant, Wrapped, Row, VariantRow, Record, VariantRecord, End, Finish, Abandon}

abbrev pub spelling : Word → List ℕ
spelling New = codes "new"
spelling Style = codes "style"
spelling Memory = codes "memory"
spelling Sink = codes "sink"
spelling Level = codes "level"
spelling Open = codes "open"
spelling Field = codes "field"
spelling Text = codes "text"
spelling Nothing = codes "none"
spelling Variant = codes "variant"
spelling Wrapped = codes "wrapped"
spelling Row = codes "row"
spelling VariantRow = codes "variant-row"
spelling Record = codes "record"
spelling VariantRecord = codes "variant-record"
spelling End = codes "end"
spelling Finish = codes "finish"
spelling Abandon = codes "abandon"

abbrev pub takes_argument : Word → Bool
takes_argument New = false
takes_argument Style = true
takes_argument Memory = true
takes_argument Sink = true
takes_argument Level = true
takes_argument Open = true
takes_argument Field = true
takes_argument Text = true
takes_argument Nothing = false
takes_argument Variant = true
takes_argument Wrapped = true
takes_argument Row = false
takes_argument VariantRow = true
takes_argument Record = true
takes_argument VariantRecord = true
takes_argument End = false
takes_argument Finish = false
takes_argument Abandon = false

-- every word, those that set up first
abbrev pub words : List Word
words =
    New ∷ Style ∷ Memory ∷ Sink ∷ Level ∷ Open ∷ Field ∷ Text ∷ Nothing ∷ Variant ∷ Wrapped ∷ Row ∷ VariantRow ∷ Record ∷ VariantRecord ∷ End ∷ Finish ∷ Abandon ∷ []

-- no word is written like this
abbrev pub Unknown : List ℕ → Type 0
Unknown bs = (w : Word) → bs ≢ spelling w

-- the word that is written like this, if one is
abbrev pub Names : Option Word → List ℕ → Type 0
Names None bs = Unknown bs
Names (Some w) bs = bs ≡ spelling w

-- no two words are written alike, so a line has one word at most
abbrev pub ToldApart : Type 0
ToldApart = (v w : Word) → spelling v ≡ spelling w → v ≡ w
