-- The end of a record as the code makes it is the model's. Assumes nothing.
use Rattle.std.proofs.Common.{◌≡◌, ℕ, ◌+◌, ◌-◌, ◌<◌, ◌≤◌, not, ◌&&◌, List, [], ◌++◌, length, Ok, Err, codes, Result, sym, refl, ap, ◌∙◌, subst, arith}
use Rattle.std.proofs.lemmas.List.{length-append}
use Rattle.refusal.specs.declared.Refusal.{Refusal}
use Rattle.refusal.specs.declared.Refusal.TheVariants.{Stage}
use Rattle.memory.proofs.Opening.{length-opened}
use Rattle.model.specs.declared.place.Place.TheVariants.{Field}
use Rattle.model.specs.Calls.{call_end}
use Rattle.model.specs.Marks.{bytes_of_mark, less_than, flatten, shut}
use Rattle.model.specs.Model.{Level, Outer, between, start}
use Rattle.model.specs.Step.{closed_record, close}
use Rattle.model.specs.Layout.{stage, below, tag_end, record_frame, outer_frames}
use Rattle.model.specs.Table.{verdict}
use Rattle.engine.specs.Memory.{Buf, Mem, Safe, grown, with_stage, appended, top_frame}
use Rattle.engine.specs.Lays.{Front, Past, Holds, Lays, setting, Told, Does}
use Rattle.engine.proofs.Fronts.{front_length, front_as, front_grown, front_second, front_opened, past_grown, past_opened, past_then}
use Rattle.engine.proofs.Settling.{top_is, some_open}
use Rattle.engine.proofs.Telling.{told_small, told_small_full}
use Rattle.engine.proofs.Spots.{on_field}
use Rattle.rows.specs.Pieces.{name_of}
use Rattle.nests.proofs.Leaving.{end_clear, end_small}
use Rattle.closing.specs.Ends.{Ends, stage_shut, end_of}
use Rattle.closing.proofs.Closing.{Closed, end_bytes, closed_empty, closed_full, kids_none, kids_some, lays_left, beyond_left, stage_close}

-- the stage b, with bs behind it, has the bytes of the closed record; it has n bytes more than that of w
pub record Shuts (w : Mem) (l : Level) (ls : List Outer) (n : ℕ) (bs : List ℕ) (b : Buf ℕ) : Type 0 where
  pub size : length (stage w.indentation (close w.form l ls)) ≡ w.stage.used + (n + length bs)
  pub written : w.stage.used + (n + length bs) ≤ length w.stage.all → Front (grown b bs) (below w.indentation ls ++ flatten w.indentation (closed_record w.form (length ls) (start ls) l))
  pub past : w.stage.used + (n + length bs) ≤ length w.stage.all → Past w.stage (grown b bs)

module _ (w : Mem) (l : Level) (ls : List Outer) (h : Holds (between l ls) w) where
  -- the top frame is the record's
  pub top_level : top_frame w ≡ record_frame w.indentation l ls []
  top_level = top_is w (outer_frames w.indentation ls) (record_frame w.indentation l ls []) h.frames

  pub level_name : name_of w (top_frame w).from ≡ l.name
  level_name = front_second w.names l.under l.name (top_frame w).from (ap (λ f. f.from) top_level) h.names

  -- the end tag
  end_is : end_of w (top_frame w).from ≡ end_bytes w.indentation (length ls) l
  end_is =
      let i = w.indentation in
      let flag : (top_frame w).flag ≡ l.body.flag = ap (λ f. f.flag) top_level in
      let around : w.records - 1 ≡ length ls = omega (arith, h.records) in
      ap (λ g. bytes_of_mark i (less_than (g && not w.wordy) (w.records - 1)) ++ (codes "/" ++ (name_of w (top_frame w).from ++ codes ">"))) flag
      ∙ ap (λ x. bytes_of_mark i (less_than (l.body.flag && not x) (w.records - 1)) ++ (codes "/" ++ (name_of w (top_frame w).from ++ codes ">"))) h.wordy
      ∙ ap (λ d. bytes_of_mark i (less_than (l.body.flag && not l.body.wordy) d) ++ (codes "/" ++ (name_of w (top_frame w).from ++ codes ">"))) around
      ∙ ap (λ n. bytes_of_mark i (less_than (l.body.flag && not l.body.wordy) (length ls)) ++ (codes "/" ++ (n ++ codes ">"))) level_name

  tag_is : (top_frame w).tag ≡ length (tag_end w.indentation l ls [])
  tag_is = ap (λ f. f.tag) top_level

  -- the tag, and then the children
  used_is : w.stage.used ≡ (top_frame w).tag + length (flatten w.indentation l.body.kids)
  used_is =
      let i = w.indentation in
      omega (arith, tag_is, front_length w.stage (stage i (between l ls)) h.stage, length-append (tag_end i l ls []) (flatten i l.body.kids))

  -- no child bytes
  pub shuts_empty : w.stage.used ≤ (top_frame w).tag → Shuts w l ls 0 (shut w.form (name_of w (top_frame w).from)) w.stage
  shuts_empty low =
      let i = w.indentation in
      let none = kids_none i l.body.kids (omega (arith, used_is, low)) in
      let bs = shut w.form (name_of w (top_frame w).from) in
      let whole : stage i (between l ls) ++ bs ≡ below i ls ++ flatten i (closed_record w.form (length ls) (start ls) l) =
      ap (λ n. stage i (between l ls) ++ shut w.form n) level_name ∙ closed_empty i w.form l ls none in
      let len = front_length w.stage (stage i (between l ls)) h.stage in
      record {
        size = omega (arith, len, ap length (stage_close i w.form l ls ∙ sym whole), length-append (stage i (between l ls)) bs);
        written = λ fits. front_as (grown w.stage bs) (stage i (between l ls) ++ bs) (below i ls ++ flatten i (closed_record w.form (length ls) (start ls) l)) whole (front_grown w.stage (stage i (between l ls)) bs (omega (arith, fits)) h.stage);
        past = λ fits. past_grown w.stage bs (omega (arith, fits));
      }

  -- children between two tags
  pub shuts_full : (top_frame w).tag < w.stage.used → Shuts w l ls 1 (end_of w (top_frame w).from) (stage_shut (top_frame w).tag w)
  shuts_full high =
      let i = w.indentation in
      let kids = flatten i l.body.kids in
      let some = kids_some i l.body.kids (omega (arith, used_is, high)) in
      let bs = end_of w (top_frame w).from in
      let b = stage_shut (top_frame w).tag w in
      let inner : List ℕ = tag_end i l ls [] ++ (codes ">" ++ kids) in
      let whole : inner ++ bs ≡ below i ls ++ flatten i (closed_record w.form (length ls) (start ls) l) =
      ap (λ z. inner ++ z) end_is ∙ closed_full i w.form l ls some in
      let a = length-append inner bs in
      let d = length-append (tag_end i l ls []) (codes ">" ++ kids) in
      let long : w.stage.used + 1 ≤ length w.stage.all → length b.all ≡ length w.stage.all = λ r. length-opened w.stage.all (codes ">") (top_frame w).tag w.stage.used (omega (arith, high)) r in
      record {
        size = omega (arith, ap length (stage_close i w.form l ls ∙ sym whole), a, d, used_is, tag_is);
        written = λ fits.
            front_as (grown b bs) (inner ++ bs) (below i ls ++ flatten i (closed_record w.form (length ls) (start ls) l)) whole
            (front_grown b inner bs (omega (arith, fits, long (omega (arith, fits)))) (front_opened w.stage (tag_end i l ls []) kids (codes ">") (top_frame w).tag tag_is (omega (arith, fits)) h.stage));
        past = λ fits.
            past_then w.stage b (grown b bs) (omega arith) (past_opened w.stage (codes ">") (top_frame w).tag (omega (arith, high)) (omega (arith, fits)))
            (past_grown b bs (omega (arith, fits, long (omega (arith, fits)))));
      }

-- the answer, in either way
pub end_told : (room : ℕ) (w v : Mem) (res : Result (Unit {0}) Refusal) (n : ℕ) (bs : List ℕ) (b : Buf ℕ) (l : Level) (ls : List Outer) → Safe w → Lays (between l ls) w → Shuts w l ls n bs b → Ends res n bs b w v → Told (verdict (setting w) room call_end (between l ls)) res w v
end_told room w v (Ok r) n bs b l ls safe lay s y =
    let i = w.indentation in
    let m = between l ls in
    let h = lay.holds in
    let f = record_frame i l ls [] in
    let x = appended bs (with_stage w b) in
    let c : Closed x w.form l ls f = record { stage = s.written y.0; names = h.names; frames = h.frames; records = h.records; fit = h.fit } in
    let beyond = beyond_left w x v (s.past y.0) refl refl refl refl (some_open w (outer_frames i ls) f h.frames) y.1 in
    told_small w room call_end m v (end_clear m refl) (end_small m w) safe h (lays_left x v w.form l ls f c y.1) beyond
end_told room w v (Err r) n bs b l ls safe lay s y =
    let m = between l ls in
    let full = told_small_full w room call_end m (end_clear m refl) (end_small m w) safe lay.holds (omega (arith, s.size, y.2)) in
    subst (λ z. Told (verdict (setting w) room call_end m) (Err z) w v) (sym y.0) (subst (λ z. Told (verdict (setting w) room call_end m) (Err Stage) w z) (sym y.1) full)

pub end_does : (room : ℕ) (w v : Mem) (res : Result (Unit {0}) Refusal) (n : ℕ) (bs : List ℕ) (b : Buf ℕ) → Safe w → w.place ≡ Field → ((l : Level) (ls : List Outer) → Holds (between l ls) w → Shuts w l ls n bs b) → Ends res n bs b w v → Does call_end room res w v
end_does room w v res n bs b safe at s y m lay =
    on_field (λ x. Told (verdict (setting w) room call_end x) res w v) w m lay at (λ l ls z. end_told room w v res n bs b l ls safe z (s l ls z.holds) y)
