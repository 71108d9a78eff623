-- Every call in code is some call of the model: its rule value means a rule, since it keeps the laws. Assumes nothing.
use Rattle.std.proofs.Common.{◌≡◌, ℕ, true, List, [], ◌∷◌, refl}
use Rattle.xml.specs.declared.escape.Use.{Use}
use Rattle.xml.specs.Escaping.{nine, asked}
use Rattle.model.specs.Calls as model
use Rattle.model.specs.Calls.{Rule, val_text, val_none, val_variant, val_wrapped, val_row, val_variant_row, val_record, val_variant_record, call_open, call_field, call_value, call_end, call_finish, call_abandon}
use Rattle.places.specs.declared.value.Value.{Value}
use Rattle.places.specs.declared.value.Value.TheVariants.{Text, Nothing, Variant, Wrapped, Row, VariantRow, Record, VariantRecord}
use Rattle.writer.specs.declared.call.Call.{Call}
use Rattle.writer.specs.declared.call.Call.TheVariants.{Open, Field, Value as value_call, End, Finish, Abandon}
use Rattle.places.specs.Values.{Chooses, ValueIs}
use Rattle.writer.specs.Spelled.{CallIs, CallsAre}

module _ {R : Type 0} (ch : Chooses R) (within : (r : R) (u : Use) (b : ℕ) → ch r u b ≡ true → nine b ≡ true) (enough : (r : R) (u : Use) (b : ℕ) → asked u b ≡ true → ch r u b ≡ true) where
  rule_of : R → Rule
  rule_of r = record { chooses = ch r; within = within r; enough = enough r }

  pub value_meant : (x : Value R) → (v : model.Value) × ValueIs ch x v
  unfolding rule_of
  value_meant (Text s r) = (val_text (rule_of r) s.now, (rule_of r, refl, refl))
  value_meant Nothing = (val_none, refl)
  value_meant (Variant s r) = (val_variant (rule_of r) s.now, (rule_of r, refl, refl))
  value_meant (Wrapped s) = (val_wrapped s.now, refl)
  value_meant Row = (val_row, refl)
  value_meant (VariantRow s) = (val_variant_row s.now, refl)
  value_meant (Record s) = (val_record s.now, refl)
  value_meant (VariantRecord s) = (val_variant_record s.now, refl)

  pub call_meant : (x : Call R) → (c : model.Call) × CallIs ch x c
  call_meant (Open s) = (call_open s.now, refl)
  call_meant (Field s) = (call_field s.now, refl)
  call_meant (value_call x) = let m = value_meant x in (call_value m.0, (m.0, m.1, refl))
  call_meant End = (call_end, refl)
  call_meant Finish = (call_finish, refl)
  call_meant Abandon = (call_abandon, refl)

  pub calls_meant : (xs : List (Call R)) → (cs : List model.Call) × CallsAre ch xs cs
  calls_meant [] = ([], tt)
  calls_meant (x ∷ xs) = let m = call_meant x in let ms = calls_meant xs in (m.0 ∷ ms.0, (m.1, ms.1))
