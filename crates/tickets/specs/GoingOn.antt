-- Runs that go on where another ended, and the record that they write together. Assumes nothing.
use Rattle.std.specs.Prelude.{ℕ, List, [], ◌∷◌, ◌++◌, codes}
use Rattle.xml.specs.declared.escape.QuoteLevel.TheVariants.{Partial}
use Rattle.reader.specs.Trees.{Bytes}
use Rattle.model.specs.Rules.{level_rule}
use Rattle.model.specs.Calls.{Call, call_open, call_field, call_value, call_end, call_finish, val_text, Answer}
use Rattle.model.specs.Table.{Setting}
use Rattle.engine.specs.Memory.{Mem}
use Rattle.writer.specs.Histories.{History}

-- the calls of the first run: a record is open, and a field of it
abbrev pub begun : List Call
begun = call_open (codes "sheet") ∷ call_field (codes "trail") ∷ []

-- those of the second, which goes on in that field
abbrev pub ended : List Call
ended = call_value (val_text (level_rule Partial) (codes "Grat")) ∷ call_end ∷ call_finish ∷ []

-- whatever calls led to the writer w and its sink, they and the calls cs, with their answers, led to the writer v and its sink
abbrev pub GoesOn : List Call → Mem → Bytes → ℕ → Mem → Bytes → ℕ → Type 0
GoesOn cs w bs k v bs' k' =
    (x : Setting) (hs : List Call) (qs : List Answer) (r : ℕ) → History x hs qs r w bs k → (rs : List Answer) × History x (hs ++ cs) (qs ++ rs) r v bs' k'
