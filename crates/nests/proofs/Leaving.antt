-- A row or a list ends: its frame is free again, and the thing around it settles. Assumes nothing.
use Rattle.std.proofs.Common.{◌≡◌, ℕ, ◌-◌, ◌<◌, true, false, ◌⊎◌, List, [], ◌∷◌, ◌++◌, length, Some, Ok, Err, sym, refl, ap, ◌∙◌, subst, append_assoc, inl, inr, ⊎_elim, arith}
use Rattle.std.proofs.lemmas.List.{length-append, length_push, append-nil, take_at}
use Rattle.refusal.specs.declared.Refusal.TheVariants.{Order}
use Rattle.model.specs.declared.frame.Frame.{Frame}
use Rattle.model.specs.declared.frame.Kind.{Kind}
use Rattle.model.specs.Calls.{call_end}
use Rattle.model.specs.Model.{Level, Row, named_row, content_row, Outer, Spot, element, content, text_spot, simple, words, single, several, State, idle, between, inside, quote, complete, spot_place, place}
use Rattle.model.specs.Step.{settle, leave}
use Rattle.model.specs.Layout.{frames, row_frame, row_frames, record_frame, outer_frames, list_frame, spot_frames, spot_names}
use Rattle.model.specs.Grounds.{innermost_row, out_of_order}
use Rattle.model.specs.Table.{verdict, or_stay}
use Rattle.engine.specs.Memory.{Buf, Mem, Safe, popped, settled, top_frame}
use Rattle.engine.specs.Lays.{Front, Nested, row_stack, row_stacks, outer_stacks, Holds, Lays, Beyond, setting, Told, Does}
use Rattle.engine.proofs.Fronts.{nested_rest, front_length, front_as, front_cut, past_same, past_cut, past_set}
use Rattle.engine.proofs.Settling.{lays_settle, top_is}
use Rattle.engine.proofs.Tops.{top_is_innermost}
use Rattle.engine.proofs.Telling.{no_bytes, Clear, Small, told_small, told_order}
use Rattle.nests.specs.Frames.{row_kind}

-- one entry less is in use
pub front_pop : {A : Type 0} (b : Buf A) (xs : List A) (f : A) → Front b (xs ++ (f ∷ [])) → Front (record b { used = b.used - 1 }) xs
front_pop b xs f h =
    front_cut b (xs ++ (f ∷ [])) xs (b.used - 1) (omega (arith, front_length b (xs ++ (f ∷ [])) h, length_push xs f)) (take_at xs (f ∷ []) (length xs) refl) h

-- an end brings nothing
pub end_clear : (m : State) → out_of_order call_end m ≡ false → Clear call_end m
end_clear m e = record { order = e; bytes = no_bytes; shape = refl; text = refl; name = refl }

pub end_small : (m : State) (w : Mem) → Small call_end m w
end_small m w = record { brought = refl; takes = refl; handed = refl }

-- the top frame is of the kind of the innermost row, or of a record's
kind_on_top : (s : Spot) (rs : List Row) (l : Level) (ls : List Outer) (w : Mem) → spot_frames s ≡ [] → Holds (inside s rs l ls) w → (top_frame w).kind ≡ innermost_row rs
kind_on_top s [] l ls w e h = ap (λ f. f.kind) (top_is_innermost s [] l ls w e h)
kind_on_top s (named_row u n g ∷ rs) l ls w e h = ap (λ f. f.kind) (top_is_innermost s (named_row u n g ∷ rs) l ls w e h)
kind_on_top s (content_row t r g ∷ rs) l ls w e h = ap (λ f. f.kind) (top_is_innermost s (content_row t r g ∷ rs) l ls w e h)

-- the innermost thing is a row or a list of this kind that may end: its frame, the rows around it, and the state then
record Ends (k : Kind) (s : Spot) (rs : List Row) (l : Level) (ls : List Outer) : Type 0 where
  pub frame : Frame
  pub rows : List Row
  pub kind : frame.kind ≡ k
  pub frames : row_frames rs ++ spot_frames s ≡ row_frames rows ++ (frame ∷ [])
  pub nested : (xs : List ℕ) (rest : List (List ℕ)) → Nested xs (row_stacks rs ++ rest) → Nested xs (row_stacks rows ++ rest)
  pub order : out_of_order call_end (inside s rs l ls) ≡ false
  pub leaves : leave s rs l ls ≡ Some (settle frame.last rows l ls)

-- a row does, where its kind is this one
row_ends : (k : Kind) (s : Spot) (o : Row) (rs : List Row) (l : Level) (ls : List Outer) → spot_frames s ≡ [] → (row_frame o).kind ≡ k → out_of_order call_end (inside s (o ∷ rs) l ls) ≡ false → leave s (o ∷ rs) l ls ≡ Some (settle (row_frame o).last rs l ls) → Ends k s (o ∷ rs) l ls
row_ends k s o rs l ls e is order leaves =
    record {
      frame = row_frame o;
      rows = rs;
      kind = is;
      frames = ap (λ z. row_frames (o ∷ rs) ++ z) e ∙ append-nil (row_frames (o ∷ rs));
      nested = λ xs rest n. nested_rest xs (row_stack o) (row_stacks rs ++ rest) n.0 n.1;
      order = order;
      leaves = leaves;
    }

-- or its kind is another, and an end out of order
abbrev Barred : Kind → Spot → List Row → Level → List Outer → Type 0
Barred k s rs l ls = (spot_frames s ≡ []) × (innermost_row rs ≡ k → ⊥) × (out_of_order call_end (inside s rs l ls) ≡ true)

ends : (k : Kind) (s : Spot) (rs : List Row) (l : Level) (ls : List Outer) → row_kind (spot_place s) ≡ Some k → Barred k s rs l ls ⊎ Ends k s rs l ls
ends k (element u n) [] l ls e = inl (refl, (λ i. absurd (cc)), refl)
ends k (element u n) (named_row t q g ∷ rs) l ls e = inr (row_ends k (element u n) (named_row t q g) rs l ls refl (cc) refl refl)
ends k (element u n) (content_row t r g ∷ rs) l ls e = inl (refl, (λ i. absurd (cc)), refl)
ends k (content p) [] l ls e = inl (refl, (λ i. absurd (cc)), refl)
ends k (content p) (named_row t q g ∷ rs) l ls e = inl (refl, (λ i. absurd (cc)), refl)
ends k (content p) (content_row t r g ∷ rs) l ls e = inr (row_ends k (content p) (content_row t r g) rs l ls refl (cc) refl refl)
ends k text_spot rs l ls e = absurd (cc)
ends k simple rs l ls e = absurd (cc)
ends k (words t) rs l ls e = inr (record { frame = list_frame; rows = rs; kind = cc; frames = refl; nested = λ xs rest n. n; order = refl; leaves = refl })

-- P holds of a state at such a place, where it holds of each before a value there
at_row : (P : State → Type 0) (k : Kind) (m : State) → row_kind (place m) ≡ Some k → ((s : Spot) (rs : List Row) (l : Level) (ls : List Outer) → row_kind (spot_place s) ≡ Some k → P (inside s rs l ls)) → P m
at_row P k idle e f = absurd (cc)
at_row P k (between l ls) e f = absurd (cc)
at_row P k (inside s rs l ls) e f = f s rs l ls e
at_row P k (quote (single n) l ls) e f = absurd (cc)
at_row P k (quote (several n t p) l ls) e f = absurd (cc)
at_row P k (complete ms) e f = absurd (cc)

module _ (k : Kind) (s : Spot) (rs : List Row) (l : Level) (ls : List Outer) (w : Mem) (x : Ends k s rs l ls) (h : Holds (inside s rs l ls) w) where
  -- the frames of the record and of the rows around
  abbrev around : List Frame
  around = outer_frames w.indentation ls ++ (record_frame w.indentation l ls [] ∷ row_frames x.rows)

  ends_front : Front w.frames (around ++ (x.frame ∷ []))
  ends_front =
      let a = outer_frames w.indentation ls in
      let f = record_frame w.indentation l ls [] in
      front_as w.frames (frames w.indentation (inside s rs l ls)) (around ++ (x.frame ∷ [])) (ap (λ z. a ++ (f ∷ z)) x.frames ∙ sym (append_assoc a (f ∷ row_frames x.rows) (x.frame ∷ []))) h.frames

  ends_top : top_frame w ≡ x.frame
  ends_top = top_is w around x.frame ends_front

  ends_deep : 1 < w.frames.used
  ends_deep =
      let f = record_frame w.indentation l ls [] in
      omega (arith, front_length w.frames (around ++ (x.frame ∷ [])) ends_front, length_push around x.frame, length-append (outer_frames w.indentation ls) (f ∷ row_frames x.rows))

  -- its frame is free again; the names still stand as they were
  ends_left : Holds (inside (element [] (spot_names s rs l)) x.rows l ls) (popped w)
  ends_left =
      let a = outer_frames w.indentation ls in
      let f = record_frame w.indentation l ls [] in
      record {
        stage = h.stage;
        names = h.names;
        frames = front_as (popped w).frames around (a ++ (f ∷ (row_frames x.rows ++ []))) (ap (λ z. a ++ (f ∷ z)) (sym (append-nil (row_frames x.rows)))) (front_pop w.frames around x.frame ends_front);
        records = h.records;
        wordy = h.wordy;
        fit = x.nested (spot_names s rs l) ((l.under ++ l.name) ∷ outer_stacks ls) h.fit;
      }

module _ (room : ℕ) (k : Kind) (w : Mem) (at : row_kind w.place ≡ Some k) where
  -- so it ends: what is around it settles
  pub row_end : (v : Mem) → Safe w → (top_frame w).kind ≡ k → v ≡ settled (top_frame w).last (popped w) → Does call_end room (Ok tt) w v
  row_end v safe top is m lay =
      at_row (λ x. Lays x w → Told (verdict (setting w) room call_end x) (Ok tt) w v) k m (sym (ap row_kind lay.place) ∙ at)
      (λ s rs l ls e y.
      let st = inside s rs l ls in
      let h = y.holds in
      ⊎_elim (λ b. absurd (b.1 (sym (kind_on_top s rs l ls w b.0 h) ∙ top)))
      (λ x.
      let p = popped w in
      let r = x.frame.last in
      let left = ends_left k s rs l ls w x h in
      let deep = ends_deep k s rs l ls w x h in
      let settles : v ≡ settled r p = is ∙ ap (λ f. settled f.last p) (ends_top k s rs l ls w x h) in
      let beyond : Beyond w (settled r p) =
      record {
        stage = past_same w.stage;
        names = past_cut w.names (top_frame p).keep;
        frames = past_set w.frames (w.frames.used - 1 - 1) (w.frames.used - 1) _ (omega (arith, deep));
        form = refl;
        indentation = refl;
      } in
      let laid = lays_settle r (element [] (spot_names s rs l)) x.rows l ls p refl left in
      told_small w room call_end st v (end_clear st x.order) (end_small st w) safe h (subst (λ z. Lays z v) (sym (ap (or_stay st) x.leaves)) (subst (λ z. Lays (settle r x.rows l ls) z) (sym settles) laid)) (subst (λ z. Beyond w z) (sym settles) beyond))
      (ends k s rs l ls e)) lay

  -- no row or list of the kind is open there
  pub row_refused : (1 < w.frames.used → (top_frame w).kind ≡ k → ⊥) → Does call_end room (Err Order) w w
  row_refused bar m lay =
      at_row (λ x. Lays x w → Told (verdict (setting w) room call_end x) (Err Order) w w) k m (sym (ap row_kind lay.place) ∙ at)
      (λ s rs l ls e y.
      ⊎_elim (λ b. told_order w room call_end (inside s rs l ls) b.2)
      (λ x. absurd (bar (ends_deep k s rs l ls w x y.holds) (ap (λ f. f.kind) (ends_top k s rs l ls w x y.holds) ∙ x.kind)))
      (ends k s rs l ls e)) lay
