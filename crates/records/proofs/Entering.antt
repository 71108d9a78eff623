-- A record opens at a value place: a tag behind the children, and the record's own frame. Assumes nothing.
use Rattle.std.proofs.Common.{◌≡◌, ℕ, ◌+◌, ◌<◌, ◌≤◌, Bool, true, List, [], ◌∷◌, ◌++◌, length, Ok, Err, Result, sym, refl, ap, ◌∙◌, subst, inl, inr, append_assoc, arith}
use Rattle.std.proofs.lemmas.List.{append-nil, length-append}
use Rattle.std.proofs.lemmas.Bool.{not_from_true}
use Rattle.refusal.specs.declared.Refusal.{Refusal}
use Rattle.model.specs.declared.place.Place.TheVariants.{Element, Content}
use Rattle.model.specs.Strings.{utf8}
use Rattle.model.specs.Calls.{call_value, Value, val_record}
use Rattle.model.specs.Marks.{bytes_of_mark, flatten}
use Rattle.model.specs.Model.{Level, Row, Outer, element, content, between, inside, stack, start}
use Rattle.model.specs.Step.{new_level}
use Rattle.model.specs.Layout.{stage, below, open_tag, tag_end, frames as frames_of, record_frame, outer_frames, row_frames}
use Rattle.model.specs.Frames.{new_frame}
use Rattle.model.specs.Table.{verdict, next, value_opens}
use Rattle.engine.specs.Memory.{Buf, Mem, Safe, Put, with_stage, name_put, pushed, appended}
use Rattle.engine.specs.Lays.{Holds, Lays, Beyond, setting, Told, Does}
use Rattle.engine.specs.Opening.{begun, Opens}
use Rattle.engine.proofs.Begins.{beyond_begun, same_frame, holds_name, Names, opens_told}
use Rattle.engine.proofs.Fronts.{front_length, front_as, front_grown, front_push, past_same}
use Rattle.engine.proofs.Telling.{Clear, told_stage, told_ok, depth_is_free, sink_unasked}
use Rattle.engine.proofs.Spots.{on_element, on_content}
use Rattle.rows.specs.Pieces.{lead_of, name_of}
use Rattle.rows.proofs.Tagging.{lead_is_start, name_is}
use Rattle.records.specs.Names.{RecordValue}

-- the bytes of a tag of this name that opens
abbrev pub tag_start : Mem → List ℕ → List ℕ
tag_start w n = lead_of w ++ n

-- the record in which the new one opens
abbrev pub around : List Row → Level → List Outer → List Outer
around rs l ls = record { level = l; rows = rs } ∷ ls

regroup : (a b c d e : List ℕ) → ((a ++ (b ++ [])) ++ c) ++ (d ++ e) ≡ ((a ++ (b ++ c)) ++ ((d ++ (e ++ [])) ++ [])) ++ []
regroup a b c d e = simp (append_assoc, append-nil)

-- the tag's start behind the stage of a memory that holds the name that the record takes
module _ (u n : List ℕ) (rs : List Row) (l : Level) (ls : List Outer) (w : Mem) (h : Holds (inside (element u n) rs l ls) w) where
  stage_more : stage w.indentation (inside (element u n) rs l ls) ++ tag_start w n ≡ stage w.indentation (between (new_level u n) (around rs l ls))
  stage_more =
      let i = w.indentation in
      let m = bytes_of_mark i (start (around rs l ls)) in
      ap (λ z. stage i (inside (element u n) rs l ls) ++ (z ++ n)) (lead_is_start (element u n) rs l ls w refl h) ∙ regroup (below i ls) (open_tag i l ls) (flatten i l.body.kids) m n

  -- how long the stage then is
  stage_opened : length (stage w.indentation (between (new_level u n) (around rs l ls))) ≡ w.stage.used + length (tag_start w n)
  stage_opened =
      let before = stage w.indentation (inside (element u n) rs l ls) in
      omega (arith, ap length stage_more, length-append before (tag_start w n), front_length w.stage before h.stage)

  lays_record : (from : ℕ) → from ≡ length u → w.frames.used < length w.frames.all → w.stage.used + length (tag_start w n) ≤ length w.stage.all → Lays (between (new_level u n) (around rs l ls)) (begun from (appended (tag_start w n) w))
  lays_record from d free fits =
      let i = w.indentation in
      let bs = tag_start w n in
      let before = stage i (inside (element u n) rs l ls) in
      let m = between (new_level u n) (around rs l ls) in
      let xs = outer_frames i ls ++ (record_frame i l ls [] ∷ row_frames rs) in
      let f = new_frame (w.stage.used + length bs) w.names.used from in
      let tag : w.stage.used + length (tag_start w n) ≡ length (tag_end w.indentation (new_level u n) (around rs l ls) []) =
      omega (arith, stage_opened, length-append (tag_end i (new_level u n) (around rs l ls) []) []) in
      let frame : new_frame (w.stage.used + length bs) w.names.used from ≡ record_frame i (new_level u n) (around rs l ls) [] = same_frame refl tag (front_length w.names (u ++ n) h.names) d in
      let under = ap (λ z. outer_frames i ls ++ (record_frame i l ls [] ∷ z)) (append-nil (row_frames rs)) in
      record {
        holds = record {
          stage = front_as (appended bs w).stage (before ++ bs) (stage i m) stage_more (front_grown w.stage before bs fits h.stage);
          names = h.names;
          frames = front_as (pushed f w).frames (xs ++ (f ∷ [])) (xs ++ (record_frame i (new_level u n) (around rs l ls) [] ∷ [])) (ap (λ z. xs ++ (z ∷ [])) frame)
              (front_push w.frames xs f free (front_as w.frames (frames_of i (inside (element u n) rs l ls)) xs under h.frames));
          records = omega (arith, h.records);
          wordy = refl;
          fit = h.fit;
        };
        place = refl;
      }

-- at an element place
module _ (room : ℕ) (w : Mem) (from : ℕ) (q : List ℕ) (safe : Safe w) (at : w.place ≡ Element from) (ok : utf8 q ≡ true) where
  clear_there : (u n : List ℕ) (rs : List Row) (l : Level) (ls : List Outer) → Clear (call_value (val_record q)) (inside (element u n) rs l ls)
  clear_there u n rs l ls = record { order = refl; bytes = not_from_true (utf8 q) ok; shape = refl; text = refl; name = refl }

  module _ (free : w.frames.used < length w.frames.all) where
    -- its tag does not fit
    pub element_record_full : (e : Refusal) (b : Buf ℕ) → Put (Err e) (tag_start w (name_of w from)) w.stage b → Does (call_value (val_record q)) room (Err e) w (with_stage w b)
    element_record_full e b y m lay = on_element (λ x. Told (verdict (setting w) room (call_value (val_record q)) x) (Err e) w (with_stage w b)) w from m lay at (λ u n rs l ls d z.
        let c = call_value (val_record q) in
        let here = inside (element u n) rs l ls in
        let h = z.holds in
        let size : length (stage w.indentation (next w.form c here)) ≡ w.stage.used + length (tag_start w (name_of w from)) =
        stage_opened u n rs l ls w h ∙ ap (λ x. w.stage.used + length (tag_start w x)) (sym (name_is u n rs l ls w from d h)) in
        subst (λ x. Told (verdict (setting w) room c here) (Err e) w (with_stage w x)) (sym y.1)
        (subst (λ x. Told (verdict (setting w) room c here) (Err x) w w) (sym y.0)
        (told_stage w room c here (clear_there u n rs l ls) safe h (omega (arith, h.names.fits)) (depth_is_free w room c here safe h.frames free) (omega (arith, size, y.2)))))

    pub element_record_ok : (b : Buf ℕ) (v : Mem) → Put (Ok tt) (tag_start w (name_of w from)) w.stage b → v ≡ begun from (with_stage w b) → Does (call_value (val_record q)) room (Ok tt) w v
    element_record_ok b v y is m lay = on_element (λ x. Told (verdict (setting w) room (call_value (val_record q)) x) (Ok tt) w v) w from m lay at (λ u n rs l ls d z.
        let c = call_value (val_record q) in
        let here = inside (element u n) rs l ls in
        let h = z.holds in
        let named = name_is u n rs l ls w from d h in
        let fits = subst (λ x. w.stage.used + length (tag_start w x) ≤ length w.stage.all) named y.0 in
        let opens : v ≡ begun from (appended (tag_start w n) w) = is ∙ ap (λ x. begun from (with_stage w x)) y.1 ∙ ap (λ x. begun from (appended (tag_start w x) w)) named in
        told_ok w room c here v (clear_there u n rs l ls) safe h (omega (arith, h.names.fits)) (depth_is_free w room c here safe h.frames free) (sink_unasked w room c here refl)
        (subst (λ x. Lays (between (new_level u n) (around rs l ls)) x) (sym opens) (lays_record u n rs l ls w h from d free fits))
        (subst (λ x. Beyond w x) (sym opens) (beyond_begun w w.names (tag_start w n) from (past_same w.names) fits)))

-- what both calls at a content place share
pub record Enters (c : Value) (p : Bool) (n : List ℕ) (w : Mem) (rs : List Row) (l : Level) (ls : List Outer) : Type 0 where
  pub names : Names (call_value c) (inside (content p) rs l ls) n w
  pub takes : value_opens c ≡ true
  pub goes : next w.form (call_value c) (inside (content p) rs l ls) ≡ between (new_level (stack rs l) n) (around rs l ls)

enters : (c : Value) (p : Bool) (n : List ℕ) (w : Mem) → utf8 n ≡ true → RecordValue c n → (rs : List Row) (l : Level) (ls : List Outer) → Enters c p n w rs l ls
enters c p n w u (inl e) rs l ls =
    subst (λ x. Enters x p n w rs l ls) (sym e) (record { names = record { order = refl; bytes = not_from_true (utf8 n) u; shape = refl; text = refl; fault = refl; brought = refl; handed = refl }; takes = refl; goes = refl })
enters c p n w u (inr e) rs l ls =
    subst (λ x. Enters x p n w rs l ls) (sym e.0) (record { names = record { order = refl; bytes = not_from_true (utf8 n) u; shape = e.1; text = refl; fault = refl; brought = refl; handed = refl }; takes = refl; goes = refl })

-- at a content place
pub enter_told : (room : ℕ) (w v : Mem) (n : List ℕ) (p : Bool) (c : Value) → Safe w → w.place ≡ Content p → utf8 n ≡ true → RecordValue c n → (r : Result (Unit {0}) Refusal) → Opens r (lead_of w) n w v → Does (call_value c) room r w v
enter_told room w v n p c safe at u is r o m lay = on_content (λ x. Told (verdict (setting w) room (call_value c) x) r w v) w p m lay at (λ rs l ls z.
    let s = stack rs l in
    let k = enters c p n w u is rs l ls in
    let named = holds_name p rs l ls w n in
    opens_told room (call_value c) (inside (content p) rs l ls) n w k.names safe z.holds (lead_of w) r v k.takes
    (λ fits. ap (λ x. length (stage w.indentation x)) k.goes ∙ stage_opened s n rs l ls (name_put n w) (named fits z.holds))
    (λ fits free room. subst (λ x. Lays x (begun w.names.used (name_put n (appended (tag_start w n) w)))) (sym k.goes) (lays_record s n rs l ls (name_put n w) (named fits z.holds) w.names.used (front_length w.names s z.holds.names) free room)) o)
