-- How a model lies in the caller's memory, for a style: the bytes of the stage, of the name stack, and the frame table. Assumes nothing.
use Rattle.std.specs.Prelude.{ℕ, suc, Bool, false, List, [], ◌∷◌, ◌++◌, length, codes, Option}
use Rattle.style.specs.declared.indentation.Indentation.{Indentation}
use Rattle.style.specs.declared.result.WriteResult.TheVariants.{Element as element_result, SensitiveText}
use Rattle.model.specs.declared.frame.Frame.{Frame}
use Rattle.model.specs.declared.frame.Kind.TheVariants.{Record, Named, Content, List as list_kind}
use Rattle.reader.specs.Trees.{Bytes}
use Rattle.model.specs.Marks.{flatten, bytes_of_mark}
use Rattle.model.specs.Model.{Level, Row, named_row, content_row, Outer, Spot, element, content, text_spot, simple, words, Quote, single, several, State, idle, between, inside, quote, complete, stack, start}

-- the open tag of a record, from its indent on
abbrev pub open_tag : Option Indentation → Level → List Outer → Bytes
open_tag i l ls = bytes_of_mark i (start ls) ++ (l.name ++ l.attrs)

-- the stage beneath a record: each record around it, from the outermost inward, as its open tag and its children so far
abbrev pub below : Option Indentation → List Outer → Bytes
below i [] = []
below i (o ∷ os) = below i os ++ (open_tag i o.level os ++ flatten i o.level.body.kids)

-- the part of an attribute that is written before its value is complete
abbrev pub pending : Quote → Bytes
pending (single k) = codes " " ++ (k ++ codes "=\"")
pending (several k v w) = codes " " ++ (k ++ (codes "=\"" ++ v))

-- the stage up to the end of the innermost open tag; the second part is what stands of an attribute
abbrev pub tag_end : Option Indentation → Level → List Outer → Bytes → Bytes
tag_end i l ls p = below i ls ++ (open_tag i l ls ++ p)

-- the bytes of the stage
abbrev pub stage : Option Indentation → State → Bytes
stage i idle = []
stage i (between l ls) = tag_end i l ls [] ++ flatten i l.body.kids
stage i (inside s rs l ls) = tag_end i l ls [] ++ flatten i l.body.kids
stage i (quote q l ls) = tag_end i l ls (pending q) ++ flatten i l.body.kids
stage i (complete ms) = flatten i ms

-- the name stack before a value
abbrev pub spot_names : Spot → List Row → Level → Bytes
spot_names (element u n) rs l = u ++ n
spot_names (content p) rs l = stack rs l
spot_names text_spot rs l = stack rs l
spot_names simple rs l = stack rs l
spot_names (words w) rs l = stack rs l

-- the bytes of the name stack
abbrev pub names : State → Bytes
names idle = []
names (between l ls) = stack [] l
names (inside s rs l ls) = spot_names s rs l
names (quote q l ls) = stack [] l
names (complete ms) = []

-- a record's frame: where its tag ends, and where its name begins and ends on the name stack
abbrev pub record_frame : Option Indentation → Level → List Outer → Bytes → Frame
record_frame i l ls p =
    record { kind = Record; flag = l.body.flag; last = element_result; tag = length (tag_end i l ls p); keep = length (l.under ++ l.name); from = length l.under }

-- a row's frame
abbrev pub row_frame : Row → Frame
row_frame (named_row u n g) = record { kind = Named; flag = g; last = element_result; tag = 0; keep = length (u ++ n); from = length u }
row_frame (content_row t r g) = record { kind = Content; flag = g; last = r; tag = 0; keep = length t; from = 0 }

-- a list's frame, which holds nothing
abbrev pub list_frame : Frame
list_frame = record { kind = list_kind; flag = false; last = SensitiveText; tag = 0; keep = 0; from = 0 }

-- the frames of open rows, outermost first
abbrev pub row_frames : List Row → List Frame
row_frames [] = []
row_frames (r ∷ rs) = row_frames rs ++ (row_frame r ∷ [])

-- the frames of the records around the innermost one, with their rows
abbrev pub outer_frames : Option Indentation → List Outer → List Frame
outer_frames i [] = []
outer_frames i (o ∷ os) = outer_frames i os ++ (record_frame i o.level os [] ∷ row_frames o.rows)

-- the frame of a list that is a text
abbrev pub spot_frames : Spot → List Frame
spot_frames (element u n) = []
spot_frames (content p) = []
spot_frames text_spot = []
spot_frames simple = []
spot_frames (words w) = list_frame ∷ []

-- the frame of a list that is an attribute's value
abbrev pub quote_frames : Quote → List Frame
quote_frames (single k) = []
quote_frames (several k v w) = list_frame ∷ []

-- the frame table, outermost first
abbrev pub frames : Option Indentation → State → List Frame
frames i idle = []
frames i (between l ls) = outer_frames i ls ++ (record_frame i l ls [] ∷ [])
frames i (inside s rs l ls) = outer_frames i ls ++ (record_frame i l ls [] ∷ (row_frames rs ++ spot_frames s))
frames i (quote q l ls) = outer_frames i ls ++ (record_frame i l ls (pending q) ∷ quote_frames q)
frames i (complete ms) = []

-- how many records are open
abbrev pub records : State → ℕ
records idle = 0
records (between l ls) = suc (length ls)
records (inside s rs l ls) = suc (length ls)
records (quote q l ls) = suc (length ls)
records (complete ms) = 0

-- whether a text's bytes stand last among the children of the innermost record
abbrev pub wordy : State → Bool
wordy idle = false
wordy (between l ls) = l.body.wordy
wordy (inside s rs l ls) = l.body.wordy
wordy (quote q l ls) = l.body.wordy
wordy (complete ms) = false
