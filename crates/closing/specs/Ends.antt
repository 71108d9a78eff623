-- The memory once a record is left, and what its end answers. Assumes nothing.
use Rattle.std.specs.Prelude.{◌≡◌, ℕ, ◌+◌, ◌-◌, ◌<◌, ◌≤◌, false, List, ◌++◌, length, Ok, Err, codes, Result}
use Rattle.refusal.specs.declared.Refusal.{Refusal}
use Rattle.refusal.specs.declared.Refusal.TheVariants.{Stage}
use Rattle.style.specs.declared.result.WriteResult.TheVariants.{Element as element_result}
use Rattle.memory.specs.Opened.{opened}
use Rattle.model.specs.declared.place.Place.TheVariants.{Complete}
use Rattle.engine.specs.Memory.{Buf, Mem, lead_among, with_stage, appended, popped, counted, worded, settled}
use Rattle.rows.specs.Pieces.{name_of}

-- the root is closed: nothing is open, and the stage holds the whole record
abbrev pub left_root : Mem → Mem
left_root w = record {
  stage = w.stage;
  names = record w.names { used = 0 };
  frames = record w.frames { used = 0 };
  records = 0;
  place = Complete;
  wordy = false;
  form = w.form;
  indentation = w.indentation;
}

-- a record in another one is closed: it is an element there
abbrev pub left_inner : Mem → Mem
left_inner w = settled element_result (worded false (counted (w.records - 1) (popped w)))

-- which of the two it is, by the number of frames in use
abbrev pub Left : Mem → Mem → Type 0
Left w v = (w.frames.used ≡ 1 → v ≡ left_root w) × (1 < w.frames.used → v ≡ left_inner w)

-- the stage with the `>` of a start tag put in where the tag ends, before the children
abbrev pub stage_shut : ℕ → Mem → Buf ℕ
stage_shut tag w = record w.stage { all = opened w.stage.all tag w.stage.used (codes ">"); used = w.stage.used + 1 }

-- the `<` of the end tag of the record on top, with its indent
abbrev pub end_lead : Mem → List ℕ
end_lead w = lead_among w (w.records - 1)

-- the end tag, by where the record's name begins on the name stack
abbrev pub end_of : Mem → ℕ → List ℕ
end_of w from = end_lead w ++ (codes "/" ++ (name_of w from ++ codes ">"))

-- the bytes are written behind the stage b, which has n bytes more than that of w, and the record is left; or all that does not fit, and nothing has changed
abbrev pub Ends : Result (Unit {0}) Refusal → ℕ → List ℕ → Buf ℕ → Mem → Mem → Type 0
Ends (Ok r) n bs b w v = (w.stage.used + (n + length bs) ≤ length w.stage.all) × Left (appended bs (with_stage w b)) v
Ends (Err e) n bs b w v = (e ≡ Stage) × (v ≡ w) × (length w.stage.all < w.stage.used + (n + length bs))
