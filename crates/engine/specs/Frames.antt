-- What becomes of a frame in the table. Assumes nothing.
use Rattle.std.specs.Prelude.{ℕ, Bool, true, false, not}
use Rattle.style.specs.declared.result.WriteResult.{WriteResult}
use Rattle.style.specs.declared.result.WriteResult.TheVariants.{Text as text_result}
use Rattle.style.specs.Results.{allows_indent}
use Rattle.model.specs.declared.place.Place.{Place}
use Rattle.model.specs.declared.place.Place.TheVariants.{Field, Element, Content}
use Rattle.model.specs.declared.frame.Frame.{Frame}
use Rattle.model.specs.declared.frame.Kind.{Kind}
use Rattle.model.specs.declared.frame.Kind.TheVariants.{Record as record_kind, Named as named_kind, Content as content_kind, List as list_kind}

-- what is read past the end of the table
abbrev pub no_frame : Frame
no_frame = record { kind = record_kind; flag = false; last = text_result; tag = 0; keep = 0; from = 0 }

-- a value with this result is complete in a thing of this kind: its flag, and what it then knows of the last item
abbrev pub settled_flag : WriteResult → Kind → Bool → Bool
settled_flag r record_kind g = allows_indent r
settled_flag r named_kind g = true
settled_flag r content_kind g = allows_indent r
settled_flag r list_kind g = g

abbrev pub settled_last : WriteResult → Kind → WriteResult → WriteResult
settled_last r record_kind last = last
settled_last r named_kind last = last
settled_last r content_kind last = r
settled_last r list_kind last = last

abbrev pub settled_frame : WriteResult → Frame → Frame
settled_frame r f = record { kind = f.kind; flag = settled_flag r f.kind f.flag; last = settled_last r f.kind f.last; tag = f.tag; keep = f.keep; from = f.from }

-- the open tag of a record now ends here
abbrev pub longer_tag : ℕ → Frame → Frame
longer_tag t f = record { kind = f.kind; flag = f.flag; last = f.last; tag = t; keep = f.keep; from = f.from }

-- where the next field or item of a thing of this kind goes; whether a text's bytes stand last, and where its name begins
abbrev pub next_place : Kind → Bool → ℕ → Place
next_place record_kind t from = Field
next_place named_kind t from = Element from
next_place content_kind t from = Content (not t)
next_place list_kind t from = Field
