-- A value is complete: the innermost open thing takes note in its frame, as the model does. Assumes nothing.
use Rattle.std.proofs.Common.{◌≡◌, ℕ, ◌-◌, ◌<◌, true, not, List, [], ◌∷◌, ◌++◌, length, Option, sym, refl, ap, ◌∙◌, subst, append_assoc, arith}
use Rattle.std.proofs.lemmas.List.{length_push, append-nil}
use Rattle.style.specs.declared.indentation.Indentation.{Indentation}
use Rattle.style.specs.declared.result.WriteResult.{WriteResult}
use Rattle.style.specs.Results.{allows_indent}
use Rattle.model.specs.declared.frame.Frame.{Frame}
use Rattle.model.specs.Model.{Level, Row, named_row, content_row, Outer, Spot, element, content, State, inside, place}
use Rattle.model.specs.Step.{settle}
use Rattle.model.specs.Layout.{stage, names as names_of, frames as frames_of, records, row_frame, row_frames, record_frame, outer_frames, spot_frames}
use Rattle.engine.specs.Frames.{no_frame, settled_frame, next_place}
use Rattle.engine.specs.Memory.{Mem, top_frame, settled, settled_in}
use Rattle.engine.specs.Lays.{Front, Past, Begins, Fit, Holds, Lays, Wordy}
use Rattle.engine.proofs.Fronts.{front_length, front_as, front_get, front_set, front_cut, begins_self, past_set}

pub top_is : (w : Mem) (xs : List Frame) (f : Frame) → Front w.frames (xs ++ (f ∷ [])) → top_frame w ≡ f
top_is w xs f h = front_get w.frames xs f [] (w.frames.used - 1) no_frame (omega (arith, front_length w.frames (xs ++ (f ∷ [])) h, length_push xs f)) h

-- something is open
pub some_open : (w : Mem) (xs : List Frame) (f : Frame) → Front w.frames (xs ++ (f ∷ [])) → 0 < w.frames.used
some_open w xs f h = omega (arith, front_length w.frames (xs ++ (f ∷ [])) h, length_push xs f)

-- what the model and the top frame have to agree on
pub record Settles (r : WriteResult) (f : Frame) (xs : List Frame) (ns : List ℕ) (m : State) (w : Mem) : Type 0 where
  pub stage : Front w.stage (stage w.indentation m)
  pub names : Front w.names ns
  pub begins : Begins (names_of m) ns
  pub keep : f.keep ≡ length (names_of m)
  pub frames : Front w.frames (xs ++ (f ∷ []))
  pub noted : xs ++ (settled_frame r f ∷ []) ≡ frames_of w.indentation m
  pub records : w.records ≡ records m
  pub wordy : Wordy m w.wordy
  pub fit : Fit m
  pub place : next_place f.kind w.wordy f.from ≡ place m

settles_in : (r : WriteResult) (f : Frame) (xs : List Frame) (ns : List ℕ) (m : State) (w : Mem) → Settles r f xs ns m w → Lays m (settled_in f r w)
settles_in r f xs ns m w s =
    let last : w.frames.used - 1 ≡ length xs = omega (arith, front_length w.frames (xs ++ (f ∷ [])) s.frames, length_push xs f) in
    record {
      holds = record {
        stage = s.stage;
        names = front_cut w.names ns (names_of m) f.keep s.keep s.begins s.names;
        frames = front_as (settled_in f r w).frames (xs ++ (settled_frame r f ∷ [])) (frames_of w.indentation m) s.noted (front_set w.frames xs f (settled_frame r f) [] (w.frames.used - 1) last s.frames);
        records = s.records;
        wordy = s.wordy;
        fit = s.fit;
      };
      place = s.place;
    }

pub settles : (r : WriteResult) (f : Frame) (xs : List Frame) (ns : List ℕ) (m : State) (w : Mem) → Settles r f xs ns m w → Lays m (settled r w)
settles r f xs ns m w s = subst (λ g. Lays m (settled_in g r w)) (sym (top_is w xs f s.frames)) (settles_in r f xs ns m w s)

-- the frames below that of the innermost row
abbrev pub below_row : Option Indentation → List Row → Level → List Outer → List Frame
below_row i rs l ls = outer_frames i ls ++ (record_frame i l ls [] ∷ row_frames rs)

row_last : (i : Option Indentation) (s : Spot) (o : Row) (rs : List Row) (l : Level) (ls : List Outer) → spot_frames s ≡ [] → frames_of i (inside s (o ∷ rs) l ls) ≡ below_row i rs l ls ++ (row_frame o ∷ [])
row_last i s o rs l ls e =
    let xs = outer_frames i ls in
    let f = record_frame i l ls [] in
    let ys = row_frames (o ∷ rs) in
    ap (λ z. xs ++ (f ∷ (ys ++ z))) e ∙ ap (λ z. xs ++ (f ∷ z)) (append-nil ys) ∙ sym (append_assoc xs (f ∷ row_frames rs) (row_frame o ∷ []))

-- the frame on top where no list is open: the innermost row's, or the record's where no row is open either
pub row_on_top : (s : Spot) (o : Row) (rs : List Row) (l : Level) (ls : List Outer) (w : Mem) → spot_frames s ≡ [] → Holds (inside s (o ∷ rs) l ls) w → Front w.frames (below_row w.indentation rs l ls ++ (row_frame o ∷ []))
row_on_top s o rs l ls w e h =
    let i = w.indentation in
    front_as w.frames (frames_of i (inside s (o ∷ rs) l ls)) (below_row i rs l ls ++ (row_frame o ∷ [])) (row_last i s o rs l ls e) h.frames

pub record_on_top : (s : Spot) (l : Level) (ls : List Outer) (w : Mem) → spot_frames s ≡ [] → Holds (inside s [] l ls) w → Front w.frames (outer_frames w.indentation ls ++ (record_frame w.indentation l ls [] ∷ []))
record_on_top s l ls w e h =
    let i = w.indentation in
    let xs = outer_frames i ls in
    let f = record_frame i l ls [] in
    front_as w.frames (frames_of i (inside s [] l ls)) (xs ++ (f ∷ [])) (ap (λ z. xs ++ (f ∷ z)) e) h.frames

-- in the state before a value, with no list open
pub lays_settle : (r : WriteResult) (s : Spot) (rs : List Row) (l : Level) (ls : List Outer) (w : Mem) → spot_frames s ≡ [] → Holds (inside s rs l ls) w → Lays (settle r rs l ls) (settled r w)
lays_settle r s [] l ls w e h =
    let i = w.indentation in
    let xs = outer_frames i ls in
    let f = record_frame i l ls [] in
    settles r f xs (names_of (inside s [] l ls)) (settle r [] l ls) w (record {
      stage = h.stage;
      names = h.names;
      begins = h.fit.0;
      keep = refl;
      frames = record_on_top s l ls w e h;
      noted = refl;
      records = h.records;
      wordy = h.wordy;
      fit = h.fit.1;
      place = refl;
    })
lays_settle r s (named_row u n g ∷ rs) l ls w e h =
    let i = w.indentation in
    settles r (row_frame (named_row u n g)) (below_row i rs l ls) (names_of (inside s (named_row u n g ∷ rs) l ls)) (settle r (named_row u n g ∷ rs) l ls) w (record {
      stage = h.stage;
      names = h.names;
      begins = h.fit.0;
      keep = refl;
      frames = row_on_top s (named_row u n g) rs l ls w e h;
      noted = sym (row_last i (element u n) (named_row u n true) rs l ls refl);
      records = h.records;
      wordy = h.wordy;
      fit = (begins_self (u ++ n), h.fit.1);
      place = refl;
    })
lays_settle r s (content_row t last g ∷ rs) l ls w e h =
    let i = w.indentation in
    let f = row_frame (content_row t last g) in
    settles r f (below_row i rs l ls) (names_of (inside s (content_row t last g ∷ rs) l ls)) (settle r (content_row t last g ∷ rs) l ls) w (record {
      stage = h.stage;
      names = h.names;
      begins = h.fit.0;
      keep = refl;
      frames = row_on_top s (content_row t last g) rs l ls w e h;
      noted = sym (row_last i (content (not l.body.wordy)) (content_row t r (allows_indent r)) rs l ls refl);
      records = h.records;
      wordy = h.wordy;
      fit = (begins_self t, h.fit.1);
      place = ap (λ b. next_place f.kind b f.from) h.wordy;
    })

-- settling changes nothing past the parts in use
pub settled_frames : (r : WriteResult) (w : Mem) → 0 < w.frames.used → Past w.frames (settled r w).frames
settled_frames r w h = past_set w.frames (w.frames.used - 1) w.frames.used (settled_frame r (top_frame w)) (omega (arith, h))
