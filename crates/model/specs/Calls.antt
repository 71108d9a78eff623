-- The calls on a writer, what each brings, and how it is answered. Assumes nothing.
use Rattle.std.specs.Prelude.{◌≡◌, ℕ, Bool, true, cond, [], ◌∷◌, codes, ◌==◌}
use Rattle.refusal.specs.declared.Refusal.{Refusal}
use Rattle.xml.specs.declared.escape.Use.{Use}
use Rattle.xml.specs.Escaping.{nine, asked}
use Rattle.std.specs.Str.{bytes_eq}
use Rattle.reader.specs.Trees.{Bytes}

-- what an escaping rule means: for each use the bytes that are replaced, only such as have a replacement,
-- and all that the use asks for
pub record Rule : Type 0 where
  pub chooses : Use → ℕ → Bool
  pub within : (u : Use) (b : ℕ) → chooses u b ≡ true → nine b ≡ true
  pub enough : (u : Use) (b : ℕ) → asked u b ≡ true → chooses u b ≡ true

-- the eight kinds of value; a string or a variant's name that may be written as text brings its own rule
pub data Value : Type 0 where
  val_text : Rule → Bytes → Value
  val_none : Value
  val_variant : Rule → Bytes → Value
  -- a variant around one value, which the next call gives
  val_wrapped : Bytes → Value
  -- values in a row, up to its end
  val_row : Value
  val_variant_row : Bytes → Value
  -- a record of this name, up to its end
  val_record : Bytes → Value
  val_variant_record : Bytes → Value

-- the calls; all but open, field, end, finish and abandon give a value
pub data Call : Type 0 where
  call_open : Bytes → Call
  call_field : Bytes → Call
  call_value : Value → Call
  call_end : Call
  call_finish : Call
  call_abandon : Call

-- every call is accepted, or refused on a ground
pub data Answer : Type 0 where
  accepted : Answer
  refused : Refusal → Answer

-- what a field's key asks for: an attribute, text, a mixed value, or an element of that name
pub data Key : Type 0 where
  key_attribute : Bytes → Key
  key_text : Key
  key_value : Key
  key_element : Bytes → Key

-- the name that stands for text
abbrev pub is_text_name : Bytes → Bool
is_text_name n = bytes_eq n (codes "$text")

-- the name that stands for a mixed value
abbrev pub is_value_name : Bytes → Bool
is_value_name n = bytes_eq n (codes "$value")

-- a key that begins with '@' names an attribute
abbrev pub key : Bytes → Key
key [] = key_element []
key (b ∷ bs) = cond (b == 64) (key_attribute bs) (cond (is_text_name (b ∷ bs)) key_text (cond (is_value_name (b ∷ bs)) key_value (key_element (b ∷ bs))))
