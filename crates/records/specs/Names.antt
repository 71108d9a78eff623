-- Names that announce a text, and the values that open a record by their name. Assumes nothing.
use Rattle.std.specs.Prelude.{◌≡◌, ℕ, Bool, true, false, ◌⊎◌, List, Option, Some, None, Ok, Err, Result}
use Rattle.refusal.specs.declared.Refusal.{Refusal}
use Rattle.refusal.specs.declared.Refusal.TheVariants.{RunOn}
use Rattle.model.specs.Strings.{utf8}
use Rattle.model.specs.Calls.{Value, val_record, val_variant_record, is_text_name}
use Rattle.engine.specs.Checks.{CheckedBytes}

-- well-formed bytes are the name of an element, which has them, or announce a text, and it may stand where it does; or they are
-- not well-formed, or it may not
abbrev pub TextAnnounced : {A : Type 0} → (A → List ℕ) → Result (Option A) Refusal → List ℕ → Bool → Type 0
TextAnnounced bytes (Ok (Some x)) n p = (utf8 n ≡ true) × (is_text_name n ≡ false) × (bytes x ≡ n)
TextAnnounced bytes (Ok None) n p = (utf8 n ≡ true) × (is_text_name n ≡ true) × (p ≡ true)
TextAnnounced {A = A} bytes (Err e) n p = CheckedBytes {A = A} (Err e) n ⊎ ((e ≡ RunOn) × (utf8 n ≡ true) × (is_text_name n ≡ true) × (p ≡ false))

-- a value that opens a record of this name at a content place
abbrev pub RecordValue : Value → List ℕ → Type 0
RecordValue c n = (c ≡ val_record n) ⊎ ((c ≡ val_variant_record n) × (is_text_name n ≡ false))
