-- What every memory that holds a model gives: the numbers that the steps rely on. Assumes nothing.
use Rattle.std.proofs.Common.{◌≡◌, ℕ, ◌-◌, ◌<◌, ◌≤◌, Bool, ◌⊎◌, List, [], ◌∷◌, ◌++◌, length, Option, Result, refl, inl, inr, ⊎_elim, arith}
use mathlib.Core.Logic.{∥∥₁_elim}
use native.Mathlib.Bridge.{le_prop}
use Rattle.std.proofs.lemmas.List.{length-append}
use Rattle.style.specs.declared.indentation.Indentation.{Indentation}
use Rattle.model.specs.declared.place.Place.TheVariants.{Field, Element, Content, Text, Simple, Attribute, TextItem, AttributeItem}
use Rattle.refusal.specs.declared.Refusal.{Refusal}
use Rattle.xml.specs.declared.escape.Use.{Use}
use Rattle.model.specs.Calls.{Rule, Value, val_text, val_variant, call_value}
use Rattle.model.specs.Model.{Level, Row, Outer, text_spot, simple, words, State, idle, between, inside, quote, complete}
use Rattle.model.specs.Layout.{records, frames, outer_frames, record_frame, row_frames, list_frame, spot_frames, quote_frames, pending}
use Rattle.engine.specs.Memory.{Mem, Safe, top_frame, frame_at}
use Rattle.engine.specs.Lays.{IsString, Lays, Holds, Does}
use Rattle.engine.proofs.Fronts.{front_length}
use Rattle.engine.proofs.Spots.{on_text, on_simple, on_word}
use Rattle.engine.proofs.Values.{open_inside}
use Rattle.fields.proofs.Standing.{field_deep, field_tag}
use Rattle.attributes.proofs.Standing.{attribute_open, attribute_tag, attribute_item_open, attribute_item_tag}
use Rattle.records.proofs.Standing.{content_open, element_open, element_named}
use Rattle.closing.proofs.Standing.{field_records, field_name}
use Rattle.places.specs.Sound.{Sound, Sizes}

-- an order between numbers that holds whatever model the memory holds
pub always : (w : Mem) (a b : ℕ) → Sound w → ((m : State) → Lays m w → a ≤ b) → a ≤ b
always w a b s f = ∥∥₁_elim s le_prop (λ t. f t.0 t.1)

-- each record around another one has a frame
outer_low : (i : Option Indentation) (ls : List Outer) → length ls ≤ length (outer_frames i ls)
outer_low i [] = omega arith
outer_low i (o ∷ os) = omega (arith, outer_low i os, length-append (outer_frames i os) (record_frame i o.level os [] ∷ row_frames o.rows))

pub records_low : (i : Option Indentation) (m : State) → records m ≤ length (frames i m)
records_low i idle = omega arith
records_low i (between l ls) = omega (arith, outer_low i ls, length-append (outer_frames i ls) (record_frame i l ls [] ∷ []))
records_low i (inside s rs l ls) = omega (arith, outer_low i ls, length-append (outer_frames i ls) (record_frame i l ls [] ∷ (row_frames rs ++ spot_frames s)))
records_low i (quote q l ls) = omega (arith, outer_low i ls, length-append (outer_frames i ls) (record_frame i l ls (pending q) ∷ quote_frames q))
records_low i (complete ms) = omega arith

records_framed : (w : Mem) (m : State) → Lays m w → w.records ≤ w.frames.used
records_framed w m lay =
    omega (arith, lay.holds.records, records_low w.indentation m, front_length w.frames (frames w.indentation m) lay.holds.frames)

pub safe : (w : Mem) → Sound w → Sizes w → Safe w
safe w s z =
    record {
      stage = always w w.stage.used (length w.stage.all) s (λ m lay. lay.holds.stage.fits);
      names = always w w.names.used (length w.names.all) s (λ m lay. lay.holds.names.fits);
      frames = always w w.frames.used (length w.frames.all) s (λ m lay. lay.holds.frames.fits);
      stage_size = z.stage;
      names_size = z.names;
      frames_size = z.frames;
      records = always w w.records w.frames.used s (records_framed w);
      indent = z.indent;
    }

-- a list that is a text is open in a record
words_open : (t : Bool) (rs : List Row) (l : Level) (ls : List Outer) (w : Mem) → Holds (inside (words t) rs l ls) w → 1 < w.frames.used
words_open t rs l ls w h =
    let i = w.indentation in
    let f = record_frame i l ls [] in
    omega (arith, front_length w.frames (frames i (inside (words t) rs l ls)) h.frames, length-append (outer_frames i ls) (f ∷ (row_frames rs ++ (list_frame ∷ []))), length-append (row_frames rs) (list_frame ∷ []))

-- what is promised of a string, for the two values that are one
module _ {chosen : Use → ℕ → Bool} {s : List ℕ} {r : Result (Unit {0}) Refusal} {w v : Mem} (told : (room : ℕ) (ρ : Rule) (c : Value) → ρ.chooses ≡ chosen → IsString c ρ s → Does (call_value c) room r w v) where
  pub as_text : (room : ℕ) (ρ : Rule) → ρ.chooses ≡ chosen → Does (call_value (val_text ρ s)) room r w v
  as_text room ρ e = told room ρ (val_text ρ s) e (inl refl)

  pub as_variant : (room : ℕ) (ρ : Rule) → ρ.chooses ≡ chosen → Does (call_value (val_variant ρ s)) room r w v
  as_variant room ρ e = told room ρ (val_variant ρ s) e (inr refl)

-- what the rows of each place rely on
module _ (w : Mem) (s : Sound w) where
  pub field_is_open : w.place ≡ Field → 0 < w.frames.used
  field_is_open e = always w 1 w.frames.used s (λ m lay. field_deep m w lay e)

  pub field_tag_within : w.place ≡ Field → (top_frame w).tag ≤ w.stage.used
  field_tag_within e = always w (top_frame w).tag w.stage.used s (λ m lay. field_tag m w lay e)

  pub field_in_record : w.place ≡ Field → 0 < w.records
  field_in_record e = always w 1 w.records s (λ m lay. field_records m w lay e)

  pub field_name_within : w.place ≡ Field → (top_frame w).from ≤ w.names.used
  field_name_within e = always w (top_frame w).from w.names.used s (λ m lay. field_name m w lay e)

  pub element_is_open : (from : ℕ) → w.place ≡ Element from → 0 < w.frames.used
  element_is_open from e = always w 1 w.frames.used s (λ m lay. element_open m w from lay e)

  pub element_name_within : (from : ℕ) → w.place ≡ Element from → from ≤ w.names.used
  element_name_within from e = always w from w.names.used s (λ m lay. element_named m w from lay e)

  pub content_is_open : (p : Bool) → w.place ≡ Content p → 0 < w.frames.used
  content_is_open p e = always w 1 w.frames.used s (λ m lay. content_open m w p lay e)

  pub text_is_open : w.place ≡ Text → 0 < w.frames.used
  text_is_open e = always w 1 w.frames.used s (λ m lay. on_text (λ x. 0 < w.frames.used) w m lay e (λ rs l ls y. open_inside text_spot rs l ls w y.holds))

  pub simple_is_open : w.place ≡ Simple → 0 < w.frames.used
  simple_is_open e = always w 1 w.frames.used s (λ m lay. on_simple (λ x. 0 < w.frames.used) w m lay e (λ rs l ls y. open_inside simple rs l ls w y.holds))

  pub words_are_open : (w.place ≡ Text) ⊎ (w.place ≡ Simple) → 0 < w.frames.used
  words_are_open = ⊎_elim text_is_open simple_is_open

  pub attribute_is_open : w.place ≡ Attribute → 0 < w.frames.used
  attribute_is_open e = always w 1 w.frames.used s (λ m lay. attribute_open m w lay e)

  pub attribute_tag_within : w.place ≡ Attribute → (top_frame w).tag ≤ w.stage.used
  attribute_tag_within e = always w (top_frame w).tag w.stage.used s (λ m lay. attribute_tag m w lay e)

  pub list_is_open : (t : Bool) → w.place ≡ TextItem t → 1 < w.frames.used
  list_is_open t e = always w 2 w.frames.used s (λ m lay. on_word (λ x. 1 < w.frames.used) w t m lay e (λ rs l ls y. words_open t rs l ls w y.holds))

  pub attribute_list_is_open : (t : Bool) → w.place ≡ AttributeItem t → 1 < w.frames.used
  attribute_list_is_open t e = always w 2 w.frames.used s (λ m lay. attribute_item_open t m w lay e)

  pub attribute_list_tag_within : (t : Bool) → w.place ≡ AttributeItem t → (frame_at w (w.frames.used - 2)).tag ≤ w.stage.used
  attribute_list_tag_within t e = always w (frame_at w (w.frames.used - 2)).tag w.stage.used s (λ m lay. attribute_item_tag t m w lay e)
