-- Which call a step over a text makes, and which one a part of a record makes. Assumes nothing.
use Rattle.std.specs.Prelude.{ℕ, ◌-◌, ◌≤◌, zero, suc, List, [], ◌∷◌, ◌++◌, map, length, take, drop, vec_items}
use Rattle.xml.specs.declared.escape.QuoteLevel.{QuoteLevel}
use Rattle.xml.specs.declared.escape.QuoteLevel.TheVariants.{Partial}
use Rattle.model.specs.Calls as model
use Rattle.model.specs.Calls.{Call, call_open, call_field, call_value, call_end, call_finish, val_text, val_none, val_variant, val_wrapped, val_row, val_variant_row, val_record, val_variant_record}
use Rattle.model.specs.Rules.{level_rule}
use Rattle.places.specs.declared.value.Value.{Value}
use Rattle.places.specs.declared.value.Value.TheVariants as value
use Rattle.timed.specs.declared.record.Step.{Step}
use Rattle.timed.specs.declared.record.Part.{Part}
use Rattle.timed.specs.declared.record.Part.TheVariants as part
use Rattle.timed.specs.declared.record.Record.{Record}

-- what the step brings stands in the text
abbrev pub Lies : List ℕ → Step → Type 0
Lies text s = (s.from ≤ s.end) × (s.end ≤ length text)

abbrev pub brought : List ℕ → Step → List ℕ
brought text s = take (s.end - s.from) (drop s.from text)

-- 0 opens, 1 begins a field, 2 gives a text, escaped under Partial, 3 begins a record, and all else ends what is innermost
abbrev pub call_of_kind : ℕ → List ℕ → Call
call_of_kind zero bs = call_open bs
call_of_kind (suc zero) bs = call_field bs
call_of_kind (suc (suc zero)) bs = call_value (val_text (level_rule Partial) bs)
call_of_kind (suc (suc (suc zero))) bs = call_value (val_record bs)
call_of_kind (suc (suc (suc (suc k)))) bs = call_end

abbrev pub call_of_step : List ℕ → Step → Call
call_of_step text s = call_of_kind s.kind (brought text s)

-- the calls of the steps, and the finish
abbrev pub calls_of_steps : List ℕ → List Step → List Call
calls_of_steps text steps = map (call_of_step text) steps ++ (call_finish ∷ [])

-- the value that one in code is, under the level that it brings
abbrev pub meant : Value QuoteLevel → model.Value
meant (value.Text bytes level) = val_text (level_rule level) bytes.now
meant value.Nothing = val_none
meant (value.Variant name level) = val_variant (level_rule level) name.now
meant (value.Wrapped name) = val_wrapped name.now
meant value.Row = val_row
meant (value.VariantRow name) = val_variant_row name.now
meant (value.Record name) = val_record name.now
meant (value.VariantRecord name) = val_variant_record name.now

abbrev pub call_of_part : Part → Call
call_of_part (part.Field key) = call_field key.now
call_of_part (part.Value value) = call_value (meant value)
call_of_part part.End = call_end

abbrev pub calls_of : Record → List Call
calls_of r = call_open r.name.now ∷ (map call_of_part (vec_items r.parts) ++ (call_finish ∷ []))
