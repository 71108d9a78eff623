-- What steps that take a frame or free one answer, where a row is a list, and where rows and lists end. Assumes nothing.
use Rattle.std.specs.Prelude.{◌≡◌, ◌<◌, ◌≤◌, ◌⊎◌, length, Some, None, Option, Ok, Err, Result}
use Rattle.refusal.specs.declared.Refusal.{Refusal}
use Rattle.refusal.specs.declared.Refusal.TheVariants.{Order, Depth}
use Rattle.model.specs.declared.place.Place.{Place}
use Rattle.model.specs.declared.place.Place.TheVariants.{Idle, Field, Element, Content, Text, Simple, Attribute, TextItem, AttributeItem, Complete}
use Rattle.model.specs.declared.frame.Frame.{Frame}
use Rattle.model.specs.declared.frame.Kind.{Kind}
use Rattle.model.specs.declared.frame.Kind.TheVariants.{Named as named_kind, Content as content_kind, List as list_kind}
use Rattle.engine.specs.Memory.{Mem, pushed, popped, placed, top_frame}

-- the places where a row is a list that is a text
abbrev pub TakesList : Place → Type 0
TakesList p = (p ≡ Text) ⊎ (p ≡ Simple)

-- the kind of row or of list that is a text whose next item is awaited at the place, where it is such a place
abbrev pub row_kind : Place → Option Kind
row_kind Idle = None
row_kind Field = None
row_kind (Element from) = Some named_kind
row_kind (Content may) = Some content_kind
row_kind Text = None
row_kind Simple = None
row_kind Attribute = None
row_kind (TextItem more) = Some list_kind
row_kind (AttributeItem more) = None
row_kind Complete = None

-- the frame is taken and the next call goes to the place; or no frame is free, and nothing has changed
abbrev pub Pushes : Result (Unit {0}) Refusal → Frame → Place → Mem → Mem → Type 0
Pushes (Ok x) f p w v = (w.frames.used < length w.frames.all) × (v ≡ placed p (pushed f w))
Pushes (Err e) f p w v = (e ≡ Depth) × (length w.frames.all ≤ w.frames.used) × (v ≡ w)

-- the top frame, which is of this kind, is free again; or no frame of this kind stands there on another, and nothing has
-- changed
abbrev pub Pops : Result Frame Refusal → Kind → Mem → Mem → Type 0
Pops (Ok f) k w v = (1 < w.frames.used) × (f ≡ top_frame w) × (f.kind ≡ k) × (v ≡ popped w)
Pops (Err e) k w v = (e ≡ Order) × (v ≡ w) × (1 < w.frames.used → (top_frame w).kind ≡ k → ⊥)
