-- What the checks of a call's bytes answer. Assumes nothing.
use Rattle.std.specs.Prelude.{◌≡◌, ℕ, true, false, List, Some, None, Ok, Err, Result}
use Rattle.refusal.specs.declared.Refusal.{Refusal}
use Rattle.refusal.specs.declared.Refusal.TheVariants.{Bytes as BytesAt, Name as NameAt}
use Rattle.refusal.specs.Refusals.{offset}
use Rattle.xml.specs.Names.{name_fault}
use Rattle.model.specs.Strings.{utf8, whole}

-- the bytes are well-formed, or refused with the length of their longest beginning of whole characters
abbrev pub CheckedBytes : {A : Type 0} → Result A Refusal → List ℕ → Type 0
CheckedBytes (Ok x) bs = utf8 bs ≡ true
CheckedBytes (Err e) bs = (utf8 bs ≡ false) × (e ≡ BytesAt (whole bs))

-- the bytes are a name, or refused with the place of the first character at fault
abbrev pub CheckedName : {A : Type 0} → Result A Refusal → List ℕ → Type 0
CheckedName (Ok x) n = name_fault n ≡ None
CheckedName (Err e) n = (name_fault n ≡ Some (offset e)) × (e ≡ NameAt (offset e))
