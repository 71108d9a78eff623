-- What holds of the frames wherever an attribute awaits its value or an item. Assumes nothing.
use Rattle.std.proofs.Common.{◌≡◌, ℕ, ◌-◌, ◌<◌, ◌≤◌, Bool, List, length, arith}
use Rattle.model.specs.declared.place.Place.TheVariants.{Attribute, AttributeItem}
use Rattle.model.specs.Model.{Level, Outer, single, several, State, quote}
use Rattle.model.specs.Layout.{pending, outer_frames, quote_frames}
use Rattle.engine.specs.Memory.{Mem, top_frame, frame_at}
use Rattle.engine.specs.Lays.{Holds, Lays}
use Rattle.engine.proofs.Tags.{tag_low}
use Rattle.engine.proofs.Spots.{on_attribute, on_attribute_item}
use Rattle.attributes.proofs.Quotes.{quote_tag, quote_depth}

-- where the record's frame stands: on top, or below a list's
pub single_frame : (k : List ℕ) (l : Level) (ls : List Outer) (w : Mem) → Holds (quote (single k) l ls) w → w.frames.used - 1 ≡ length (outer_frames w.indentation ls)
single_frame k l ls w h = omega (arith, quote_depth (single k) l ls w h)

pub several_frame : (k s : List ℕ) (t : Bool) (l : Level) (ls : List Outer) (w : Mem) → Holds (quote (several k s t) l ls) w → w.frames.used - 2 ≡ length (outer_frames w.indentation ls)
several_frame k s t l ls w h = omega (arith, quote_depth (several k s t) l ls w h)

-- at the attribute place a record is open, and its tag ends within the stage
pub attribute_open : (m : State) (w : Mem) → Lays m w → w.place ≡ Attribute → 0 < w.frames.used
attribute_open m w lay at = on_attribute (λ x. 0 < w.frames.used) w m lay at (λ k l ls y. omega (arith, quote_depth (single k) l ls w y.holds))

pub attribute_tag : (m : State) (w : Mem) → Lays m w → w.place ≡ Attribute → (top_frame w).tag ≤ w.stage.used
attribute_tag m w lay at =
    on_attribute (λ x. (top_frame w).tag ≤ w.stage.used) w m lay at
    (λ k l ls y. tag_low w l ls (pending (single k)) (quote_frames (single k)) (w.frames.used - 1) (single_frame k l ls w y.holds) (quote_tag (single k) l ls w y.holds))

-- at the place of an item a list is open in a record, and the record's tag ends within the stage
pub attribute_item_open : (t : Bool) (m : State) (w : Mem) → Lays m w → w.place ≡ AttributeItem t → 1 < w.frames.used
attribute_item_open t m w lay at = on_attribute_item (λ x. 1 < w.frames.used) w t m lay at (λ k s l ls y. omega (arith, quote_depth (several k s t) l ls w y.holds))

pub attribute_item_tag : (t : Bool) (m : State) (w : Mem) → Lays m w → w.place ≡ AttributeItem t → (frame_at w (w.frames.used - 2)).tag ≤ w.stage.used
attribute_item_tag t m w lay at =
    on_attribute_item (λ x. (frame_at w (w.frames.used - 2)).tag ≤ w.stage.used) w t m lay at
    (λ k s l ls y. tag_low w l ls (pending (several k s t)) (quote_frames (several k s t)) (w.frames.used - 2) (several_frame k s t l ls w y.holds) (quote_tag (several k s t) l ls w y.holds))
