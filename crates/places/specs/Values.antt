-- What a value in code brings, and which value of the model it is: the same kind with the same bytes, and the rule that its rule value
-- means. Assumes nothing.
use Rattle.std.specs.Prelude.{◌≡◌, ℕ, Bool, true, false, ◌⊎◌, List, [], Ok, Err, Result}
use Rattle.refusal.specs.declared.Refusal.{Refusal}
use Rattle.refusal.specs.declared.Refusal.TheVariants.{Bytes as BytesAt, Shape}
use Rattle.xml.specs.declared.escape.Use.{Use}
use Rattle.model.specs.Strings.{utf8, whole}
use Rattle.model.specs.Calls as model
use Rattle.model.specs.Calls.{Rule, val_text, val_none, val_variant, val_wrapped, val_row, val_variant_row, val_record, val_variant_record}
use Rattle.places.specs.declared.value.Value.{Value}
use Rattle.places.specs.declared.value.Value.TheVariants.{Text, Nothing, Variant, Wrapped, Row, VariantRow, Record, VariantRecord}

-- the bytes that a value brings
abbrev pub string : {R : Type 0} → Value R → List ℕ
string (Text s r) = s.now
string Nothing = []
string (Variant s r) = s.now
string (Wrapped s) = s.now
string Row = []
string (VariantRow s) = s.now
string (Record s) = s.now
string (VariantRecord s) = s.now

-- refused for its bytes, and else for its kind
abbrev pub Misfit : {R : Type 0} → Result (Unit {0}) Refusal → Value R → Type 0
Misfit (Ok x) v = ⊥
Misfit (Err e) v = ((utf8 (string v) ≡ false) × (e ≡ BytesAt (whole (string v)))) ⊎ ((utf8 (string v) ≡ true) × (e ≡ Shape))

-- for each rule value, the bytes that it replaces in each use
abbrev pub Chooses : Type 0 → Type 0
Chooses R = R → Use → ℕ → Bool

abbrev pub ValueIs : {R : Type 0} → Chooses R → Value R → model.Value → Type 0
ValueIs ch (Text s r) v = (ρ : Rule) × (ρ.chooses ≡ ch r) × (v ≡ val_text ρ s.now)
ValueIs ch Nothing v = v ≡ val_none
ValueIs ch (Variant s r) v = (ρ : Rule) × (ρ.chooses ≡ ch r) × (v ≡ val_variant ρ s.now)
ValueIs ch (Wrapped s) v = v ≡ val_wrapped s.now
ValueIs ch Row v = v ≡ val_row
ValueIs ch (VariantRow s) v = v ≡ val_variant_row s.now
ValueIs ch (Record s) v = v ≡ val_record s.now
ValueIs ch (VariantRecord s) v = v ≡ val_variant_record s.now
