-- The frames that opening calls take. Assumes nothing.
use Rattle.std.specs.Prelude.{ℕ, Bool, true}
use Rattle.style.specs.declared.result.WriteResult.TheVariants.{Element as element_result, SensitiveNothing}
use Rattle.model.specs.declared.frame.Frame.{Frame}
use Rattle.model.specs.declared.frame.Kind.TheVariants.{Record as record_kind, Named as named_kind, Content as content_kind}

-- the frame of a record that has just opened: where its tag ends, and where its name ends and begins
abbrev pub new_frame : ℕ → ℕ → ℕ → Frame
new_frame tag keep from = record { kind = record_kind; flag = true; last = element_result; tag = tag; keep = keep; from = from }

-- a named row's frame: its flag, and where its name ends and begins
abbrev pub named_frame : Bool → ℕ → ℕ → Frame
named_frame g keep from = record { kind = named_kind; flag = g; last = element_result; tag = 0; keep = keep; from = from }

-- a content row's frame: its flag, and how long the name stack is
abbrev pub content_frame : Bool → ℕ → Frame
content_frame g keep = record { kind = content_kind; flag = g; last = SensitiveNothing; tag = 0; keep = keep; from = 0 }
