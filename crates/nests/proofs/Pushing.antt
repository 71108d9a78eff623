-- A row or a list opens: a frame is taken, and its first item is awaited. Assumes nothing.
use Rattle.std.proofs.Common.{◌≡◌, ℕ, ◌+◌, ◌<◌, ◌≤◌, true, false, List, [], ◌∷◌, ◌++◌, length, None, Ok, Err, sym, refl, ap, ◌∙◌, subst, append_assoc, arith}
use Rattle.std.proofs.lemmas.List.{append-nil}
use Rattle.refusal.specs.declared.Refusal.TheVariants.{Depth}
use Rattle.model.specs.declared.place.Place.{Place}
use Rattle.model.specs.declared.frame.Frame.{Frame}
use Rattle.model.specs.Calls.{Call, call_value, val_row}
use Rattle.model.specs.Model.{Level, Row, Outer, Spot, words, State, inside, stack}
use Rattle.model.specs.Layout.{frames as frames_of, row_frame, row_frames, record_frame, outer_frames, list_frame, spot_frames, spot_names}
use Rattle.model.specs.Grounds.{out_of_order, misshapen, misnamed}
use Rattle.model.specs.Table.{verdict, next, name_brought, takes_frame, handed}
use Rattle.engine.specs.Memory.{Buf, Mem, Safe, grown, pushed, placed, with_names, name_put}
use Rattle.engine.specs.Lays.{Front, Begins, Nested, row_stack, row_stacks, outer_stacks, Holds, Lays, Past, Beyond, setting, Told}
use Rattle.engine.proofs.Fronts.{front_as, front_push, past_same, past_grown, past_set}
use Rattle.engine.proofs.Telling.{no_bytes, Clear, told_ok, told_depth, depth_is_free, sink_unasked}

-- one frame more is in use, that of a row or list in the innermost thing
frames_taken : (g : Frame) (s : Spot) (rs : List Row) (l : Level) (ls : List Outer) (w : Mem) → spot_frames s ≡ [] → w.frames.used < length w.frames.all → Holds (inside s rs l ls) w → Front (pushed g w).frames (outer_frames w.indentation ls ++ (record_frame w.indentation l ls [] ∷ (row_frames rs ++ (g ∷ []))))
frames_taken g s rs l ls w e free h =
    let a = outer_frames w.indentation ls in
    let f = record_frame w.indentation l ls [] in
    let before : frames_of w.indentation (inside s rs l ls) ≡ a ++ (f ∷ row_frames rs) = ap (λ z. a ++ (f ∷ (row_frames rs ++ z))) e ∙ ap (λ z. a ++ (f ∷ z)) (append-nil (row_frames rs)) in
    front_as (pushed g w).frames ((a ++ (f ∷ row_frames rs)) ++ (g ∷ [])) (a ++ (f ∷ (row_frames rs ++ (g ∷ [])))) (append_assoc a (f ∷ row_frames rs) (g ∷ []))
    (front_push w.frames (a ++ (f ∷ row_frames rs)) g free (front_as w.frames (frames_of w.indentation (inside s rs l ls)) (a ++ (f ∷ row_frames rs)) before h.frames))

-- a row opens in the innermost record; the names may have become more
pub holds_row : (s s' : Spot) (r : Row) (rs : List Row) (l : Level) (ls : List Outer) (w : Mem) (b : Buf ℕ) → spot_frames s ≡ [] → spot_frames s' ≡ [] → w.frames.used < length w.frames.all → Holds (inside s rs l ls) w → Front b (spot_names s' (r ∷ rs) l) → Begins (row_stack r) (spot_names s' (r ∷ rs) l) → Nested (row_stack r) (row_stacks rs ++ ((l.under ++ l.name) ∷ outer_stacks ls)) → Holds (inside s' (r ∷ rs) l ls) (pushed (row_frame r) (with_names w b))
holds_row s s' r rs l ls w b e e' free h names begins nested =
    let a = outer_frames w.indentation ls in
    let f = record_frame w.indentation l ls [] in
    let ys = row_frames (r ∷ rs) in
    record {
      stage = h.stage;
      names = names;
      frames = front_as (pushed (row_frame r) w).frames (a ++ (f ∷ ys)) (frames_of w.indentation (inside s' (r ∷ rs) l ls)) (ap (λ z. a ++ (f ∷ z)) (sym (ap (λ z. ys ++ z) e' ∙ append-nil ys))) (frames_taken (row_frame r) s rs l ls w e free h);
      records = h.records;
      wordy = h.wordy;
      fit = (begins, nested);
    }

-- a list opens, which is a text
pub holds_list : (s : Spot) (rs : List Row) (l : Level) (ls : List Outer) (w : Mem) → spot_frames s ≡ [] → spot_names s rs l ≡ stack rs l → w.frames.used < length w.frames.all → Holds (inside s rs l ls) w → Holds (inside (words false) rs l ls) (pushed list_frame w)
holds_list s rs l ls w e names free h =
    record {
      stage = h.stage;
      names = front_as w.names (spot_names s rs l) (stack rs l) names h.names;
      frames = frames_taken list_frame s rs l ls w e free h;
      records = h.records;
      wordy = h.wordy;
      fit = subst (λ z. Nested z (row_stacks rs ++ ((l.under ++ l.name) ∷ outer_stacks ls))) names h.fit;
    }

-- a frame and a place change nothing past the parts in use, nor do names that do not
beyond_frame : (w : Mem) (f : Frame) (p : Place) (b : Buf ℕ) → Past w.names b → Beyond w (placed p (pushed f (with_names w b)))
beyond_frame w f p b names =
    record { stage = past_same w.stage; names = names; frames = past_set w.frames w.frames.used (w.frames.used + 1) f (omega arith); form = refl; indentation = refl }

-- a name among them
pub beyond_push : (w : Mem) (f : Frame) (p : Place) (n : List ℕ) → w.names.used + length n ≤ length w.names.all → Beyond w (placed p (pushed f (name_put n w)))
beyond_push w f p n fits = beyond_frame w f p (grown w.names n) (past_grown w.names n fits)

-- a value that takes a frame, brings no name and hands nothing on
pub record Opens (c : Call) (m : State) (w : Mem) : Type 0 where
  pub clear : Clear c m
  pub brought : name_brought c m ≡ []
  pub takes : takes_frame c ≡ true
  pub handed : handed w.indentation c m ≡ []

-- a row does, at a place that takes one
pub row_opens : (m : State) (w : Mem) → out_of_order (call_value val_row) m ≡ false → misshapen (call_value val_row) m ≡ false → misnamed (call_value val_row) m ≡ None → name_brought (call_value val_row) m ≡ [] → Opens (call_value val_row) m w
row_opens m w order shape name brought = record { clear = record { order = order; bytes = no_bytes; shape = shape; text = refl; name = name }; brought = brought; takes = refl; handed = refl }

module _ (room : ℕ) (c : Call) (m : State) (w : Mem) (o : Opens c m w) (safe : Safe w) (h : Holds m w) where
  pub opens_deep : length w.frames.all ≤ w.frames.used → Told (verdict (setting w) room c m) (Err Depth) w w
  opens_deep full = told_depth w room c m o.clear safe h (omega (arith, ap length o.brought, h.names.fits)) o.takes full

  pub opens_ok : (f : Frame) (p : Place) (v : Mem) → w.frames.used < length w.frames.all → Lays (next w.form c m) (placed p (pushed f w)) → v ≡ placed p (pushed f w) → Told (verdict (setting w) room c m) (Ok tt) w v
  opens_ok f p v free lay is =
      told_ok w room c m v o.clear safe h (omega (arith, ap length o.brought, h.names.fits)) (depth_is_free w room c m safe h.frames free) (sink_unasked w room c m o.handed)
      (subst (λ y. Lays (next w.form c m) y) (sym is) lay) (subst (λ y. Beyond w y) (sym is) (beyond_frame w f p w.names (past_same w.names)))
