-- Marks behind the children of the innermost record. Assumes nothing.
use Rattle.std.proofs.Common.{◌≡◌, ℕ, ◌+◌, ◌<◌, ◌≤◌, Bool, List, [], ◌∷◌, ◌++◌, length, Option, sym, refl, ap, ◌∙◌, subst, append_assoc}
use Rattle.style.specs.declared.indentation.Indentation.{Indentation}
use Rattle.style.specs.declared.result.WriteResult.{WriteResult}
use Rattle.model.specs.Marks.{Mark, flatten}
use Rattle.model.specs.Model.{Body, Level, Row, named_row, content_row, Outer, Spot, element, content, text_spot, simple, words, between, inside, stack}
use Rattle.model.specs.Step.{with_body, settle}
use Rattle.model.specs.Layout.{stage, tag_end, spot_frames, spot_names}
use Rattle.model.proofs.Flatten.{flatten-++}
use Rattle.engine.specs.Memory.{Mem, grown, appended, worded, settled, top_frame}
use Rattle.engine.specs.Lays.{Nested, row_stacks, outer_stacks, Holds, Lays, Beyond}
use Rattle.engine.proofs.Fronts.{front_as, front_grown, past_cut, past_grown}
use Rattle.engine.proofs.Settling.{lays_settle, settled_frames}

-- a body with marks behind its children, and whether a text's bytes stand last then
abbrev pub more_kids : Body → List Mark → Bool → Body
more_kids b ms t = record { kids = b.kids ++ ms; flag = b.flag; wordy = t }

pub stage_kids : (i : Option Indentation) (ms : List Mark) (t : Bool) (l : Level) (ls : List Outer) → stage i (between (with_body l (more_kids l.body ms t)) ls) ≡ stage i (between l ls) ++ flatten i ms
stage_kids i ms t l ls =
    ap (λ z. tag_end i l ls [] ++ z) (flatten-++ i l.body.kids ms) ∙ sym (append_assoc (tag_end i l ls []) (flatten i l.body.kids) (flatten i ms))

-- the name stack does not depend on the children
pub stack_body : (rs : List Row) (l : Level) (b : Body) → stack rs l ≡ stack rs (with_body l b)
stack_body [] l b = refl
stack_body (named_row u n g ∷ rs) l b = refl
stack_body (content_row t r g ∷ rs) l b = refl

pub spot_names_body : (s : Spot) (rs : List Row) (l : Level) (b : Body) → spot_names s rs l ≡ spot_names s rs (with_body l b)
spot_names_body (element u n) rs l b = refl
spot_names_body (content p) rs l b = stack_body rs l b
spot_names_body text_spot rs l b = stack_body rs l b
spot_names_body simple rs l b = stack_body rs l b
spot_names_body (words w) rs l b = stack_body rs l b

pub holds_kids : (s : Spot) (rs : List Row) (l : Level) (ls : List Outer) (w : Mem) (ms : List Mark) (t : Bool) → w.stage.used + length (flatten w.indentation ms) ≤ length w.stage.all → Holds (inside s rs l ls) w → Holds (inside s rs (with_body l (more_kids l.body ms t)) ls) (worded t (appended (flatten w.indentation ms) w))
holds_kids s rs l ls w ms t room h =
    let i = w.indentation in
    let b = more_kids l.body ms t in
    let same = spot_names_body s rs l b in
    record {
      stage = front_as (grown w.stage (flatten i ms)) (stage i (inside s rs l ls) ++ flatten i ms) (stage i (inside s rs (with_body l (more_kids l.body ms t)) ls)) (sym (stage_kids i ms t l ls))
          (front_grown w.stage (stage i (inside s rs l ls)) (flatten i ms) room h.stage);
      names = front_as w.names (spot_names s rs l) (spot_names s rs (with_body l b)) same h.names;
      frames = h.frames;
      records = h.records;
      wordy = refl;
      fit = subst (λ z. Nested z (row_stacks rs ++ ((l.under ++ l.name) ∷ outer_stacks ls))) same h.fit;
    }

-- marks behind the children, and the value is complete
pub lays_value : (r : WriteResult) (s : Spot) (rs : List Row) (l : Level) (ls : List Outer) (w : Mem) (ms : List Mark) (t : Bool) → spot_frames s ≡ [] → w.stage.used + length (flatten w.indentation ms) ≤ length w.stage.all → Holds (inside s rs l ls) w → Lays (settle r rs (with_body l (more_kids l.body ms t)) ls) (settled r (worded t (appended (flatten w.indentation ms) w)))
lays_value r s rs l ls w ms t e room h =
    lays_settle r s rs (with_body l (more_kids l.body ms t)) ls (worded t (appended (flatten w.indentation ms) w)) e (holds_kids s rs l ls w ms t room h)

-- and past the parts in use nothing has changed
pub beyond_value : (r : WriteResult) (w : Mem) (bs : List ℕ) (t : Bool) → 0 < w.frames.used → w.stage.used + length bs ≤ length w.stage.all → Beyond w (settled r (worded t (appended bs w)))
beyond_value r w bs t o room =
    record {
      stage = past_grown w.stage bs room;
      names = past_cut w.names (top_frame w).keep;
      frames = settled_frames r w o;
      form = refl;
      indentation = refl;
    }
