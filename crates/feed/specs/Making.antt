-- Which call a line makes, word by word. Assumes nothing.
use Rattle.std.specs.Prelude.{◌≡◌, ◌≢◌, ◌↔◌, ◌∷◌, List, [], map, Some, None, Option, vec_items}
use Rattle.xml.specs.declared.escape.QuoteLevel.{QuoteLevel}
use Rattle.xml.specs.Escaping.{level_chooses}
use Rattle.script.specs.declared.line.Line.{Line}
use Rattle.script.specs.declared.order.Role.TheVariants.{Calls}
use Rattle.script.specs.Order.{role}
use Rattle.script.specs.declared.line.Line.TheVariants.{Blank, New, Style, Memory, Sink, Level, Open, Field, Text, Nothing, Variant, Wrapped, Row, VariantRow, Record, VariantRecord, End, Finish, Abandon}
use Rattle.model.specs.Calls as model
use Rattle.model.specs.Rules.{level_rule}
use Rattle.model.specs.Calls.{call_open, call_field, call_value, call_end, call_finish, call_abandon, val_text, val_none, val_variant, val_wrapped, val_row, val_variant_row, val_record, val_variant_record}
use Rattle.writer.specs.declared.call.Call.{Call}
use Rattle.writer.specs.Spelled.{CallIs}
use Rattle.feed.specs.declared.call_line.CallLine.{CallLine}

-- the call that a line makes under a level, if it makes one
abbrev pub call_of : QuoteLevel → Line → Option model.Call
call_of level Blank = None
call_of level New = None
call_of level (Style layout) = None
call_of level (Memory sizes) = None
call_of level (Sink choice) = None
call_of level (Level other) = None
call_of level (Open name) = Some (call_open (vec_items name))
call_of level (Field key) = Some (call_field (vec_items key))
call_of level (Text string) = Some (call_value (val_text (level_rule level) (vec_items string)))
call_of level Nothing = Some (call_value val_none)
call_of level (Variant name) = Some (call_value (val_variant (level_rule level) (vec_items name)))
call_of level (Wrapped name) = Some (call_value (val_wrapped (vec_items name)))
call_of level Row = Some (call_value val_row)
call_of level (VariantRow name) = Some (call_value (val_variant_row (vec_items name)))
call_of level (Record name) = Some (call_value (val_record (vec_items name)))
call_of level (VariantRecord name) = Some (call_value (val_variant_record (vec_items name)))
call_of level End = Some call_end
call_of level Finish = Some call_finish
call_of level Abandon = Some call_abandon

-- the call in code is the one that the line makes
abbrev pub Makes : Call QuoteLevel → QuoteLevel → Line → Type 0
Makes x level line = (c : model.Call) × CallIs level_chooses x c × (call_of level line ≡ Some c)

-- one more call in front, if there is one
abbrev pub with_call : Option model.Call → List model.Call → List model.Call
with_call None cs = cs
with_call (Some c) cs = c ∷ cs

-- the calls that lines make, one after another
abbrev pub calls_made : List CallLine → List model.Call
calls_made [] = []
calls_made (l ∷ ls) = with_call (call_of l.level l.line) (calls_made ls)

-- a line makes a call exactly where it is one
abbrev pub CallsOnly : Type 0
CallsOnly = (level : QuoteLevel) (line : Line) → (call_of level line ≢ None) ↔ (role line ≡ Calls)

-- each of a writer's lines makes one call, its own, and they are made in the order of the lines
abbrev pub OneCallEach : Type 0
OneCallEach = (ls : List CallLine) → map Some (calls_made ls) ≡ map (λ l. call_of l.level l.line) ls
