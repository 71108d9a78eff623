-- The law of escaping: what is written says the value to a reader, and nothing else. Assumes nothing.
use Rattle.std.specs.Prelude.{◌≡◌, ℕ, ◌+◌, ◌-◌, ◌<◌, Bool, true, not, ◌&&◌, List, [], ◌∷◌, length, take, drop, Ok, Err, Result}
use Rattle.refusal.specs.declared.Refusal.{Refusal}
use Rattle.refusal.specs.Refusals.{Refuses}
use Rattle.memory.specs.Laid.{laid}
use Rattle.xml.specs.declared.escape.Use.{Use}
use Rattle.xml.specs.declared.escape.Use.TheVariants.{Text, Attribute, TextItem, AttributeItem}
use Rattle.xml.specs.Escaping.{among, escaped}
use Rattle.xml.specs.Reading.{lines, CharData, AttValue}

-- raw bytes that were written for a use are read as this value
abbrev pub ReadFor : Use → List ℕ → List ℕ → Type 0
ReadFor Text raw value = CharData (lines raw) value
ReadFor Attribute raw value = AttValue (lines raw) value
ReadFor TextItem raw value = CharData (lines raw) value
ReadFor AttributeItem raw value = AttValue (lines raw) value

-- what may not stand raw in a use: < and > (so no ]]>) in a text, < and " in a value, and white space in an item
abbrev pub barred : Use → List ℕ
barred Text = 60 ∷ 62 ∷ []
barred Attribute = 60 ∷ 34 ∷ []
barred TextItem = 60 ∷ 62 ∷ 9 ∷ 10 ∷ 13 ∷ 32 ∷ []
barred AttributeItem = 60 ∷ 34 ∷ 9 ∷ 10 ∷ 13 ∷ 32 ∷ []

-- none of the barred bytes stands in bs
abbrev pub free : List ℕ → List ℕ → Bool
free bars [] = true
free bars (b ∷ bs) = not (among b bars) && free bars bs

-- the bytes `raw`, written for a use, say exactly `value` to a reader
pub record ReadsBack (u : Use) (raw value : List ℕ) : Type 0 where
  pub reads : ReadFor u raw value
  pub only : (other : List ℕ) → ReadFor u raw other → other ≡ value
  pub clean : free (barred u) raw ≡ true

-- a value was escaped into bytes from `at` up to `end`: the escaped value stands there, everything else is as before,
-- and a reader takes what stands there for the value
pub record Writes (u : Use) (chosen : ℕ → Bool) (value : List ℕ) (at end : ℕ) (before after : List ℕ) : Type 0 where
  pub ends : end ≡ at + length (escaped chosen value)
  pub bytes : after ≡ laid before at (escaped chosen value)
  pub says : ReadsBack u (take (end - at) (drop at after)) value

-- where it would end past the bytes there are, nothing changes
abbrev pub Escapes : Use → (ℕ → Bool) → List ℕ → ℕ → Result ℕ Refusal → List ℕ → List ℕ → Type 0
Escapes u chosen value at (Ok end) before after = Writes u chosen value at end before after
Escapes u chosen value at (Err e) before after = Refuses 8 0 e × (length before < at + length (escaped chosen value)) × (after ≡ before)
