-- Bytes at the end of the innermost open tag, before the children. Assumes nothing.
use Rattle.std.proofs.Common.{◌≡◌, ℕ, suc, ◌+◌, ◌<◌, ◌≤◌, List, [], ◌∷◌, ◌++◌, length, Option, sym, refl, ap, ◌∙◌, append_assoc, arith}
use Rattle.std.proofs.lemmas.List.{length-append, append-nil}
use Rattle.style.specs.declared.indentation.Indentation.{Indentation}
use Rattle.model.specs.declared.place.Place.{Place}
use Rattle.model.specs.declared.frame.Frame.{Frame}
use Rattle.model.specs.Marks.{flatten, bytes_of_mark}
use Rattle.model.specs.Model.{Level, Outer, start}
use Rattle.model.specs.Step.{with_attribute}
use Rattle.model.specs.Layout.{below, open_tag, tag_end, record_frame, outer_frames}
use Rattle.engine.specs.Frames.{no_frame, longer_tag}
use Rattle.engine.specs.Memory.{Mem, frame_at, in_tag, placed}
use Rattle.engine.specs.Lays.{Front, Past, Beyond}
use Rattle.engine.proofs.Fronts.{front_length, front_as, front_get, front_set, front_opened, past_same, past_opened, past_set}

-- more of an attribute is written
pub tag_end_more : (i : Option Indentation) (l : Level) (ls : List Outer) (p s : List ℕ) → tag_end i l ls p ++ s ≡ tag_end i l ls (p ++ s)
tag_end_more i l ls p s = append_assoc (below i ls) (open_tag i l ls ++ p) s ∙ ap (λ z. below i ls ++ z) (append_assoc (open_tag i l ls) p s)

-- what was written is one of the attributes now
pub tag_end_closed : (i : Option Indentation) (l : Level) (ls : List Outer) (p : List ℕ) → tag_end i l ls p ≡ tag_end i (with_attribute l p) ls []
tag_end_closed i l ls p =
    let whole : open_tag i l ls ++ p ≡ open_tag i (with_attribute l p) ls ++ [] =
    append_assoc (bytes_of_mark i (start ls)) (l.name ++ l.attrs) p ∙ ap (λ z. bytes_of_mark i (start ls) ++ z) (append_assoc l.name l.attrs p) ∙ sym (append-nil (open_tag i (with_attribute l p) ls)) in
    ap (λ z. below i ls ++ z) whole

-- the memory with its innermost open tag, what stands of an attribute in it, the children, and the frames above the record's
pub record Tag (w : Mem) (l : Level) (ls : List Outer) (p : List ℕ) (qs : List Frame) : Type 0 where
  pub stage : Front w.stage (tag_end w.indentation l ls p ++ flatten w.indentation l.body.kids)
  pub frames : Front w.frames (outer_frames w.indentation ls ++ (record_frame w.indentation l ls p ∷ qs))

module _ (w : Mem) (l : Level) (ls : List Outer) (p : List ℕ) (qs : List Frame) (t : Tag w l ls p qs) where
  -- how many frames are in use
  pub tag_depth : w.frames.used ≡ length (outer_frames w.indentation ls) + suc (length qs)
  tag_depth =
      let xs = outer_frames w.indentation ls in
      let f = record_frame w.indentation l ls p in
      front_length w.frames (xs ++ (f ∷ qs)) t.frames ∙ length-append xs (f ∷ qs)

  -- how long the stage is with more of the attribute
  pub tag_size : (s : List ℕ) → length (tag_end w.indentation l ls (p ++ s) ++ flatten w.indentation l.body.kids) ≡ w.stage.used + length s
  tag_size s =
      let i = w.indentation in
      let kids = flatten i l.body.kids in
      omega (arith, front_length w.stage (tag_end i l ls p ++ kids) t.stage, length-append (tag_end i l ls p) kids, length-append (tag_end i l ls (p ++ s)) kids, length-append (tag_end i l ls p) s, ap length (tag_end_more i l ls p s))

module _ (w : Mem) (l : Level) (ls : List Outer) (p : List ℕ) (qs : List Frame) (k : ℕ) (at : k ≡ length (outer_frames w.indentation ls)) (t : Tag w l ls p qs) where
  -- the record's frame
  pub tag_frame : frame_at w k ≡ record_frame w.indentation l ls p
  tag_frame = front_get w.frames (outer_frames w.indentation ls) (record_frame w.indentation l ls p) qs k no_frame at t.frames

  tag_is : (frame_at w k).tag ≡ length (tag_end w.indentation l ls p)
  tag_is = ap (λ f. f.tag) tag_frame

  -- the tag ends where something is written
  pub tag_low : (frame_at w k).tag ≤ w.stage.used
  tag_low = let i = w.indentation in omega (arith, tag_is, front_length w.stage (tag_end i l ls p ++ flatten i l.body.kids) t.stage, length-append (tag_end i l ls p) (flatten i l.body.kids))

  pub frame_low : k < w.frames.used
  frame_low = omega (arith, at, tag_depth w l ls p qs t)

  -- bytes put in at its end
  pub tag_grows : (s : List ℕ) → w.stage.used + length s ≤ length w.stage.all → Tag (in_tag k s w) l ls (p ++ s) qs
  tag_grows s room =
      let i = w.indentation in
      let kids = flatten i l.body.kids in
      let xs = outer_frames i ls in
      let longer : longer_tag ((frame_at w k).tag + length s) (frame_at w k) ≡ record_frame i l ls (p ++ s) =
      ap (λ f. longer_tag (f.tag + length s) f) tag_frame ∙ ap (λ n. longer_tag n (record_frame i l ls p)) (sym (length-append (tag_end i l ls p) s) ∙ ap length (tag_end_more i l ls p s)) in
      record {
        stage = front_as (in_tag k s w).stage (tag_end i l ls p ++ (s ++ kids)) (tag_end i l ls (p ++ s) ++ kids) (sym (append_assoc (tag_end i l ls p) s kids) ∙ ap (λ z. z ++ kids) (tag_end_more i l ls p s))
            (front_opened w.stage (tag_end i l ls p) kids s (frame_at w k).tag tag_is room t.stage);
        frames = front_as (in_tag k s w).frames (xs ++ (longer_tag ((frame_at w k).tag + length s) (frame_at w k) ∷ qs)) (xs ++ (record_frame i l ls (p ++ s) ∷ qs)) (ap (λ f. xs ++ (f ∷ qs)) longer)
            (front_set w.frames xs (record_frame i l ls p) (longer_tag ((frame_at w k).tag + length s) (frame_at w k)) qs k at t.frames);
      }

  pub tag_past : (s : List ℕ) → w.stage.used + length s ≤ length w.stage.all → Past w.stage (in_tag k s w).stage
  tag_past s room = past_opened w.stage s (frame_at w k).tag tag_low room

  pub tag_beyond : (s : List ℕ) (q : Place) → w.stage.used + length s ≤ length w.stage.all → Beyond w (placed q (in_tag k s w))
  tag_beyond s q room =
      record {
        stage = tag_past s room;
        names = past_same w.names;
        frames = past_set w.frames k w.frames.used (longer_tag ((frame_at w k).tag + length s) (frame_at w k)) frame_low;
        form = refl;
        indentation = refl;
      }
