-- Every value that is complete at once: marks behind the children, or none, and the innermost open thing settles. Assumes nothing.
use Rattle.std.proofs.Common.{◌≡◌, ℕ, ◌+◌, ◌<◌, ◌≤◌, Bool, List, [], ◌∷◌, ◌++◌, length, Ok, Err, Option, sym, refl, ap, ◌∙◌, subst, arith}
use Rattle.std.proofs.lemmas.List.{length-append}
use Rattle.refusal.specs.declared.Refusal.TheVariants.{Stage}
use Rattle.style.specs.declared.indentation.Indentation.{Indentation}
use Rattle.style.specs.declared.result.WriteResult.{WriteResult}
use Rattle.model.specs.Calls.{Call}
use Rattle.model.specs.Marks.{Mark, flatten}
use Rattle.model.specs.Model.{Level, Row, named_row, content_row, Outer, Spot, between, inside}
use Rattle.model.specs.Step.{with_body, settle}
use Rattle.model.specs.Layout.{stage, frames, outer_frames, record_frame, row_frames, spot_frames}
use Rattle.model.specs.Table.{verdict, next}
use Rattle.engine.specs.Memory.{Mem, Safe, appended, worded, settled, top_frame}
use Rattle.engine.specs.Lays.{Holds, Lays, Beyond, setting, Told}
use Rattle.engine.proofs.Fronts.{front_length, past_same, past_cut}
use Rattle.engine.proofs.Settling.{lays_settle, settled_frames}
use Rattle.engine.proofs.Kids.{more_kids, stage_kids, lays_value, beyond_value}
use Rattle.engine.proofs.Telling.{Clear, Small, told_small, told_small_full}

pub open_inside : (s : Spot) (rs : List Row) (l : Level) (ls : List Outer) (w : Mem) → Holds (inside s rs l ls) w → 0 < w.frames.used
open_inside s rs l ls w h =
    let i = w.indentation in
    omega (arith, front_length w.frames (frames i (inside s rs l ls)) h.frames, length-append (outer_frames i ls) (record_frame i l ls [] ∷ (row_frames rs ++ spot_frames s)))

-- settling writes nothing
pub stage_settle : (i : Option Indentation) (r : WriteResult) (rs : List Row) (l : Level) (ls : List Outer) → stage i (settle r rs l ls) ≡ stage i (between l ls)
stage_settle i r [] l ls = refl
stage_settle i r (named_row u n g ∷ rs) l ls = refl
stage_settle i r (content_row t last g ∷ rs) l ls = refl

module _ (c : Call) (room : ℕ) (s : Spot) (rs : List Row) (l : Level) (ls : List Outer) (w : Mem) (r : WriteResult) (e : spot_frames s ≡ []) (k : Clear c (inside s rs l ls)) (x : Small c (inside s rs l ls) w) (safe : Safe w) (lay : Lays (inside s rs l ls) w) where
  -- with marks
  pub value_ok : (ms : List Mark) (t : Bool) (v : Mem) → next w.form c (inside s rs l ls) ≡ settle r rs (with_body l (more_kids l.body ms t)) ls → w.stage.used + length (flatten w.indentation ms) ≤ length w.stage.all → v ≡ settled r (worded t (appended (flatten w.indentation ms) w)) → Told (verdict (setting w) room c (inside s rs l ls)) (Ok tt) w v
  value_ok ms t v n fits is =
      let h = lay.holds in
      let next-laid = lays_value r s rs l ls w ms t e fits h in
      let beyond = beyond_value r w (flatten w.indentation ms) t (open_inside s rs l ls w h) fits in
      told_small w room c (inside s rs l ls) v k x safe h (subst (λ m. Lays m v) (sym n) (subst (λ y. Lays (settle r rs (with_body l (more_kids l.body ms t)) ls) y) (sym is) next-laid)) (subst (λ y. Beyond w y) (sym is) beyond)

  pub value_full : (ms : List Mark) (t : Bool) → next w.form c (inside s rs l ls) ≡ settle r rs (with_body l (more_kids l.body ms t)) ls → length w.stage.all < w.stage.used + length (flatten w.indentation ms) → Told (verdict (setting w) room c (inside s rs l ls)) (Err Stage) w w
  value_full ms t n h =
      let i = w.indentation in
      let a = front_length w.stage (stage i (inside s rs l ls)) lay.holds.stage in
      let b : stage i (next w.form c (inside s rs l ls)) ≡ stage i (between l ls) ++ flatten i ms = ap (stage i) n ∙ stage_settle i r rs (with_body l (more_kids l.body ms t)) ls ∙ stage_kids i ms t l ls in
      told_small_full w room c (inside s rs l ls) k x safe lay.holds (omega (arith, a, h, ap length b, length-append (stage i (between l ls)) (flatten i ms)))

  -- without
  pub value_silent : (v : Mem) → next w.form c (inside s rs l ls) ≡ settle r rs l ls → v ≡ settled r w → Told (verdict (setting w) room c (inside s rs l ls)) (Ok tt) w v
  value_silent v n is =
      let h = lay.holds in
      let beyond : Beyond w (settled r w) = record { stage = past_same w.stage; names = past_cut w.names (top_frame w).keep; frames = settled_frames r w (open_inside s rs l ls w h); form = refl; indentation = refl } in
      told_small w room c (inside s rs l ls) v k x safe h (subst (λ m. Lays m v) (sym n) (subst (λ y. Lays (settle r rs l ls) y) (sym is) (lays_settle r s rs l ls w e h))) (subst (λ y. Beyond w y) (sym is) beyond)
