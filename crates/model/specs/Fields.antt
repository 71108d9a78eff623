-- A field with its values: the calls from its key up to the one that completes it. Assumes nothing.
use Rattle.std.specs.Prelude.{◌≡◌, ℕ, zero, suc, Bool, true, false, List, [], ◌∷◌, ◌==◌}
use Rattle.reader.specs.Trees.{Bytes}
use Rattle.model.specs.Calls.{val_text, val_none, val_variant, val_wrapped, val_row, val_variant_row, val_record, val_variant_record, Call, call_open, call_field, call_value, call_end, call_finish, call_abandon}

-- no call is left
abbrev pub nothing_follows : List Call → Bool
nothing_follows [] = true
nothing_follows (c ∷ cs) = false

-- with so many rows, lists and records open in a field, its last call completes it and none before does: a text, none or a
-- variant completes it where nothing is open, and so does the end of the last thing that is open; wrapped wants one more value
abbrev pub completes : ℕ → List Call → Bool
completes d [] = false
completes d (call_open n ∷ cs) = false
completes zero (call_field k ∷ cs) = false
completes (suc d) (call_field k ∷ cs) = completes (suc d) cs
completes zero (call_value (val_text r s) ∷ cs) = nothing_follows cs
completes (suc d) (call_value (val_text r s) ∷ cs) = completes (suc d) cs
completes zero (call_value val_none ∷ cs) = nothing_follows cs
completes (suc d) (call_value val_none ∷ cs) = completes (suc d) cs
completes zero (call_value (val_variant r v) ∷ cs) = nothing_follows cs
completes (suc d) (call_value (val_variant r v) ∷ cs) = completes (suc d) cs
completes d (call_value (val_wrapped v) ∷ cs) = completes d cs
completes d (call_value val_row ∷ cs) = completes (suc d) cs
completes d (call_value (val_variant_row v) ∷ cs) = completes (suc d) cs
completes d (call_value (val_record n) ∷ cs) = completes (suc d) cs
completes d (call_value (val_variant_record v) ∷ cs) = completes (suc d) cs
completes zero (call_end ∷ cs) = false
completes (suc zero) (call_end ∷ cs) = nothing_follows cs
completes (suc (suc d)) (call_end ∷ cs) = completes (suc d) cs
completes d (call_finish ∷ cs) = false
completes d (call_abandon ∷ cs) = false

-- a field: its key, and its values up to the call that completes it
pub record Field : Type 0 where
  pub key : Bytes
  pub values : List Call
  pub whole : completes 0 values ≡ true

-- all calls of a field, from its key on
abbrev pub calls : Field → List Call
calls x = call_field x.key ∷ x.values

-- the key begins with '@'
abbrev pub names_attribute : Bytes → Bool
names_attribute [] = false
names_attribute (b ∷ bs) = b == 64
