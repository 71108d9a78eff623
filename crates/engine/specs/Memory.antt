-- The writer's memory as lists and numbers, and what each small step does to it. Assumes nothing.
use Rattle.std.specs.Prelude.{◌≡◌, ℕ, ◌+◌, ◌-◌, ◌<◌, ◌≤◌, Bool, not, ◌&&◌, List, length, Some, None, Option, Ok, Err, Result, slice_index_or, slice_range, slice_set}
use Rattle.std.specs.Borrow.{GName}
use Rattle.style.specs.declared.indentation.Indentation.{Indentation}
use Rattle.style.specs.declared.result.WriteResult.{WriteResult}
use Rattle.style.specs.declared.style.EmptyElementHandling.{EmptyElementHandling}
use Rattle.refusal.specs.declared.Refusal.{Refusal}
use Rattle.refusal.specs.declared.Refusal.TheVariants.{Stage}
use Rattle.memory.specs.declared.lent.Lent.{Lent}
use Rattle.memory.specs.Laid.{laid}
use Rattle.memory.specs.Lending.{usable, past}
use Rattle.memory.specs.Opened.{opened}
use Rattle.model.specs.declared.place.Place.{Place}
use Rattle.model.specs.declared.place.Place.TheVariants.{Idle}
use Rattle.model.specs.declared.frame.Frame.{Frame}
use Rattle.model.specs.Marks.{bytes_of_mark, less_than}
use Rattle.engine.specs.Frames.{no_frame, settled_frame, longer_tag, next_place}
use Rattle.engine.specs.declared.state.Core.{Core}

-- one of the caller's slices: what may be used of it, how much of that is in use, what lies past it, and which reference it is
pub record Buf (A : Type 0) : Type 0 where
  pub all : List A
  pub used : ℕ
  pub rest : List A
  pub reference : GName

-- all that a writer holds
pub record Mem : Type 0 where
  pub stage : Buf ℕ
  pub names : Buf ℕ
  pub frames : Buf Frame
  pub records : ℕ
  pub place : Place
  pub wordy : Bool
  pub form : EmptyElementHandling
  pub indentation : Option Indentation

-- the structs of the code, read so
abbrev pub buf : {A : Type 0} → Lent A → Buf A
buf b = record { all = usable b; used = b.used; rest = past b; reference = b.all.ghost_name }

abbrev pub mem : Core → Mem
mem w = record {
  stage = buf w.stage;
  names = buf w.names;
  frames = buf w.frames;
  records = w.records;
  place = w.place;
  wordy = w.wordy;
  form = w.style.empty_elements;
  indentation = w.style.indentation;
}

-- src laid behind what is in use
abbrev pub grown : Buf ℕ → List ℕ → Buf ℕ
grown b src = record b { all = laid b.all b.used src; used = b.used + length src }

abbrev pub with_stage : Mem → Buf ℕ → Mem
with_stage w b = record { stage = b; names = w.names; frames = w.frames; records = w.records; place = w.place; wordy = w.wordy; form = w.form; indentation = w.indentation }

abbrev pub with_names : Mem → Buf ℕ → Mem
with_names w b = record { stage = w.stage; names = b; frames = w.frames; records = w.records; place = w.place; wordy = w.wordy; form = w.form; indentation = w.indentation }

abbrev pub with_frames : Mem → Buf Frame → Mem
with_frames w b = record { stage = w.stage; names = w.names; frames = b; records = w.records; place = w.place; wordy = w.wordy; form = w.form; indentation = w.indentation }

-- the next call goes here
abbrev pub placed : Place → Mem → Mem
placed p w = record { stage = w.stage; names = w.names; frames = w.frames; records = w.records; place = p; wordy = w.wordy; form = w.form; indentation = w.indentation }

-- whether a text's bytes stand last
abbrev pub worded : Bool → Mem → Mem
worded t w = record { stage = w.stage; names = w.names; frames = w.frames; records = w.records; place = w.place; wordy = t; form = w.form; indentation = w.indentation }

-- this many records are open
abbrev pub counted : ℕ → Mem → Mem
counted n w = record { stage = w.stage; names = w.names; frames = w.frames; records = n; place = w.place; wordy = w.wordy; form = w.form; indentation = w.indentation }

-- bytes behind the stage
abbrev pub appended : List ℕ → Mem → Mem
appended src w = with_stage w (grown w.stage src)

-- a name on the name stack
abbrev pub name_put : List ℕ → Mem → Mem
name_put n w = with_names w (grown w.names n)

-- the name stack from here up to there
abbrev pub name_at : Mem → ℕ → ℕ → List ℕ
name_at w from end = slice_range w.names.all from end

-- a frame on the frame table
abbrev pub pushed : Frame → Mem → Mem
pushed f w = with_frames w (record w.frames { all = slice_set w.frames.all w.frames.used f; used = w.frames.used + 1 })

-- the top frame is free again
abbrev pub popped : Mem → Mem
popped w = with_frames w (record w.frames { used = w.frames.used - 1 })

abbrev pub frame_at : Mem → ℕ → Frame
frame_at w k = slice_index_or w.frames.all k no_frame

abbrev pub top_frame : Mem → Frame
top_frame w = frame_at w (w.frames.used - 1)

-- the `<` of a tag in the innermost open thing, with its indent; this many records are open around the tag
abbrev pub lead_among : Mem → ℕ → List ℕ
lead_among w around = bytes_of_mark w.indentation (less_than ((top_frame w).flag && not w.wordy) around)

-- bytes put in at the end of the open tag of the record whose frame stands at k
abbrev pub in_tag : ℕ → List ℕ → Mem → Mem
in_tag k src w = record {
  stage = record w.stage { all = opened w.stage.all (frame_at w k).tag w.stage.used src; used = w.stage.used + length src };
  names = w.names;
  frames = record w.frames { all = slice_set w.frames.all k (longer_tag ((frame_at w k).tag + length src) (frame_at w k)); used = w.frames.used };
  records = w.records;
  place = w.place;
  wordy = w.wordy;
  form = w.form;
  indentation = w.indentation;
}

-- a value with this result is complete in the thing whose frame f stands on top: the frame takes note, the name stack goes
-- back to what that thing keeps, and its next field or item is awaited
abbrev pub settled_in : Frame → WriteResult → Mem → Mem
settled_in f r w = record {
  stage = w.stage;
  names = record w.names { used = f.keep };
  frames = record w.frames { all = slice_set w.frames.all (w.frames.used - 1) (settled_frame r f); used = w.frames.used };
  records = w.records;
  place = next_place f.kind w.wordy f.from;
  wordy = w.wordy;
  form = w.form;
  indentation = w.indentation;
}

-- the same in the innermost open thing
abbrev pub settled : WriteResult → Mem → Mem
settled r w = settled_in (top_frame w) r w

-- nothing is in use any more
abbrev pub emptied : Mem → Mem
emptied w = record {
  stage = record w.stage { used = 0 };
  names = record w.names { used = 0 };
  frames = record w.frames { used = 0 };
  records = 0;
  place = Idle;
  wordy = w.wordy;
  form = w.form;
  indentation = w.indentation;
}

-- the bytes are written behind what is in use, or they do not fit and nothing has changed
abbrev pub Put : Result (Unit {0}) Refusal → List ℕ → Buf ℕ → Buf ℕ → Type 0
Put (Ok x) bs b c = (b.used + length bs ≤ length b.all) × (c ≡ grown b bs)
Put (Err e) bs b c = (e ≡ Stage) × (c ≡ b) × (length b.all < b.used + length bs)

-- the same at the end of the open tag of the record whose frame stands at k
abbrev pub PutInTag : Result (Unit {0}) Refusal → ℕ → List ℕ → Mem → Mem → Type 0
PutInTag (Ok x) k bs w v = (w.stage.used + length bs ≤ length w.stage.all) × (v ≡ in_tag k bs w)
PutInTag (Err e) k bs w v = (e ≡ Stage) × (v ≡ w) × (length w.stage.all < w.stage.used + length bs)

-- how often the indent byte stands for each record around a tag
abbrev pub indent_size : Option Indentation → ℕ
indent_size None = 0
indent_size (Some i) = i.size

-- numbers that the code relies on
pub record Safe (w : Mem) : Type 0 where
  pub stage : w.stage.used ≤ length w.stage.all
  pub names : w.names.used ≤ length w.names.all
  pub frames : w.frames.used ≤ length w.frames.all
  pub stage_size : length w.stage.all ≤ 65536
  pub names_size : length w.names.all ≤ 4096
  pub frames_size : length w.frames.all ≤ 64
  pub records : w.records ≤ w.frames.used
  pub indent : indent_size w.indentation ≤ 16
