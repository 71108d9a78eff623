-- A value's answer from what the code's step says it wrote. Assumes nothing.
use Rattle.std.proofs.Common.{◌≡◌, ℕ, suc, Bool, true, false, List, [], length, Some, Ok, Err, Result, sym, refl, ap, ◌∙◌, subst, arith}
use Rattle.std.proofs.lemmas.Bool.{not_from_true, and_right}
use Rattle.refusal.specs.declared.Refusal.{Refusal}
use Rattle.refusal.specs.declared.Refusal.TheVariants.{Stage}
use Rattle.style.specs.declared.result.WriteResult.{WriteResult}
use Rattle.style.specs.declared.result.WriteResult.TheVariants.{Element as element_result}
use Rattle.model.specs.Strings.{utf8}
use Rattle.model.specs.Calls.{Value, call_value}
use Rattle.model.specs.Marks.{Mark, flatten}
use Rattle.model.specs.Model.{Level, Row, Outer, Spot, element, inside, stack}
use Rattle.model.specs.Step.{done, put, put_element, moved_if, settle, with_body, with_tag}
use Rattle.model.specs.Layout.{spot_frames}
use Rattle.model.specs.Grounds.{no_element, is_text, value_string}
use Rattle.model.specs.Table.{verdict, next, or_stay, value_opens}
use Rattle.engine.specs.Memory.{Mem, Safe, settled, worded, appended}
use Rattle.engine.specs.Lays.{Lays, setting, Told}
use Rattle.engine.proofs.Kids.{more_kids}
use Rattle.engine.proofs.Values.{value_ok, value_full}
use Rattle.engine.proofs.Telling.{Clear, Small}
use Rattle.rows.specs.Pieces.{Writes}

-- a value that writes marks and is complete
pub spot_told : (c : Value) (room : ℕ) (s : Spot) (rs : List Row) (l : Level) (ls : List Outer) (w v : Mem) (res : Result (Unit {0}) Refusal) (r : WriteResult) (ms : List Mark) (t : Bool) (bs : List ℕ) → spot_frames s ≡ [] → Clear (call_value c) (inside s rs l ls) → Small (call_value c) (inside s rs l ls) w → put w.form (suc (length ls)) rs (stack rs l) l.body s c ≡ Some (done r (more_kids l.body ms t)) → bs ≡ flatten w.indentation ms → Safe w → Lays (inside s rs l ls) w → Writes res bs r t w v → Told (verdict (setting w) room (call_value c) (inside s rs l ls)) res w v
spot_told c room s rs l ls w v (Ok x) r ms t bs e k y p b safe lay h =
    let m = inside s rs l ls in
    let n : next w.form (call_value c) m ≡ settle r rs (with_body l (more_kids l.body ms t)) ls = ap (λ o. or_stay m (moved_if rs l ls o)) p in
    let size = ap length b in
    value_ok (call_value c) room s rs l ls w r e k y safe lay ms t v n (omega (arith, size, h.0)) (h.1 ∙ ap (λ z. settled r (worded t (appended z w))) b)
spot_told c room s rs l ls w v (Err x) r ms t bs e k y p b safe lay h =
    let m = inside s rs l ls in
    let n : next w.form (call_value c) m ≡ settle r rs (with_body l (more_kids l.body ms t)) ls = ap (λ o. or_stay m (moved_if rs l ls o)) p in
    let size = ap length b in
    let full = value_full (call_value c) room s rs l ls w r e k y safe lay ms t n (omega (arith, size, h.2)) in
    subst (λ z. Told (verdict (setting w) room (call_value c) m) (Err z) w v) (sym h.0) (subst (λ z. Told (verdict (setting w) room (call_value c) m) (Err Stage) w z) (sym h.1) full)

-- at the element place
pub element_told : (c : Value) (room : ℕ) (u n : List ℕ) (rs : List Row) (l : Level) (ls : List Outer) (w v : Mem) (res : Result (Unit {0}) Refusal) (ms : List Mark) (bs : List ℕ) → utf8 (value_string c) ≡ true → no_element c ≡ false → value_opens c ≡ false → put_element w.form (suc (length ls)) rs l.body u n c ≡ Some (done element_result (with_tag l.body ms)) → bs ≡ flatten w.indentation ms → Safe w → Lays (inside (element u n) rs l ls) w → Writes res bs element_result false w v → Told (verdict (setting w) room (call_value c) (inside (element u n) rs l ls)) res w v
element_told c room u n rs l ls w v res ms bs a q o p b safe lay h =
    spot_told c room (element u n) rs l ls w v res element_result ms false bs refl
    (record { order = refl; bytes = not_from_true (utf8 (value_string c)) a; shape = q; text = and_right (is_text c) false refl; name = refl })
    (record { brought = refl; takes = o; handed = refl }) p b safe lay h
