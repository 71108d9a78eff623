-- Rows at each place that takes one. Assumes nothing.
use Rattle.std.proofs.Common.{◌≡◌, ℕ, ◌<◌, Bool, false, not, List, [], ◌∷◌, ◌++◌, length, Ok, Err, Result, sym, refl, ap, ◌∙◌, subst, ⊎_elim}
use Rattle.refusal.specs.declared.Refusal.{Refusal}
use Rattle.refusal.specs.declared.Refusal.TheVariants.{Depth}
use Rattle.style.specs.declared.result.WriteResult.TheVariants.{SensitiveNothing}
use Rattle.model.specs.declared.place.Place.{Place}
use Rattle.model.specs.declared.place.Place.TheVariants.{Element, Content, Text, Simple, TextItem}
use Rattle.model.specs.declared.frame.Frame.{Frame}
use Rattle.model.specs.Calls.{Call, call_value, val_row}
use Rattle.model.specs.Model.{Level, Row, named_row, content_row, Outer, Spot, element, content, text_spot, simple, words, State, inside, stack, flag}
use Rattle.model.specs.Layout.{list_frame, row_frame, spot_frames, spot_names}
use Rattle.model.specs.Table.{verdict, next}
use Rattle.engine.specs.Memory.{Mem, Safe, pushed, placed, top_frame}
use Rattle.engine.specs.Lays.{Holds, Lays, setting, Told, Does}
use Rattle.engine.proofs.Fronts.{front_length, begins_self}
use Rattle.engine.proofs.Tops.{top_flag}
use Rattle.engine.proofs.Begins.{lays_placed, same_frame}
use Rattle.engine.proofs.Spots.{on_place}
use Rattle.model.specs.Frames.{named_frame, content_frame}
use Rattle.nests.specs.Frames.{TakesList, Pushes}
use Rattle.nests.proofs.Pushing.{Opens, row_opens, opens_deep, opens_ok, holds_row, holds_list}

-- from what the step says it did
pub pushes_told : (room : ℕ) (c : Call) (m : State) (w v : Mem) (r : Result (Unit {0}) Refusal) (f g : Frame) (p q : Place) → Opens c m w → Safe w → Holds m w → f ≡ g → p ≡ q → (w.frames.used < length w.frames.all → Lays (next w.form c m) (placed q (pushed g w))) → Pushes r f p w v → Told (verdict (setting w) room c m) r w v
pushes_told room c m w v (Ok x) f g p q o safe h e d lay y =
    opens_ok room c m w o safe h g q v y.0 (lay y.0) (y.1 ∙ ap (λ z. placed p (pushed z w)) e ∙ ap (λ z. placed z (pushed g w)) d)
pushes_told room c m w v (Err x) f g p q o safe h e d lay y =
    subst (λ z. Told (verdict (setting w) room c m) (Err z) w v) (sym y.0) (subst (λ z. Told (verdict (setting w) room c m) (Err Depth) w z) (sym y.2) (opens_deep room c m w o safe h y.1))

module _ (room : ℕ) (w v : Mem) (r : Result (Unit {0}) Refusal) (safe : Safe w) where
  -- what is to be shown of each state there
  abbrev RowTold : State → Type 0
  RowTold m = Told (verdict (setting w) room (call_value val_row) m) r w v

  -- at an element place
  pub element_row : (from : ℕ) (g : Bool) → w.place ≡ Element from → g ≡ (top_frame w).flag → Pushes r (named_frame g w.names.used from) (Element from) w v → Does (call_value val_row) room r w v
  element_row from g at e y m lay =
      on_place RowTold w (Element from) m lay at
      (λ u n rs l ls d z.
      let h = z.holds in
      let f = flag rs l.body in
      let here = inside (element u n) rs l ls in
      let row = named_row u n f in
      pushes_told room (call_value val_row) here w v r (named_frame g w.names.used from) (row_frame row) (Element from) (Element (length u)) (row_opens here w refl refl refl refl) safe h
      (same_frame (e ∙ top_flag (element u n) rs l ls w refl h) refl (front_length w.names (u ++ n) h.names) d) (ap Element d)
      (λ free. lays_placed (inside (element u n) (row ∷ rs) l ls) (Element (length u)) (pushed (row_frame row) w) refl (holds_row (element u n) (element u n) row rs l ls w w.names refl refl free h h.names (begins_self (u ++ n)) h.fit)) y)

  -- at a content place
  pub content_row_opens : (p : Bool) (g : Bool) → w.place ≡ Content p → g ≡ (top_frame w).flag → Pushes r (content_frame g w.names.used) (Content (not w.wordy)) w v → Does (call_value val_row) room r w v
  content_row_opens p g at e y m lay =
      on_place RowTold w (Content p) m lay at
      (λ rs l ls z.
      let h = z.holds in
      let f = flag rs l.body in
      let t = stack rs l in
      let here = inside (content p) rs l ls in
      let row = content_row t SensitiveNothing f in
      let then = content (not l.body.wordy) in
      pushes_told room (call_value val_row) here w v r (content_frame g w.names.used) (row_frame row) (Content (not w.wordy)) (Content (not l.body.wordy)) (row_opens here w refl refl refl refl) safe h
      (same_frame (e ∙ top_flag (content p) rs l ls w refl h) refl (front_length w.names t h.names) refl) (ap (λ b. Content (not b)) h.wordy)
      (λ free. lays_placed (inside then (row ∷ rs) l ls) (Content (not l.body.wordy)) (pushed (row_frame row) w) refl (holds_row (content p) then row rs l ls w w.names refl refl free h h.names (begins_self t) h.fit)) y)

  -- a list, which is one text
  pub row_is_list : TakesList w.place → Pushes r list_frame (TextItem false) w v → Does (call_value val_row) room r w v
  row_is_list at y m lay = ⊎_elim (λ t. on_place RowTold w Text m lay t (go text_spot refl (λ rs l. refl) (λ rs l ls. (row_opens (inside text_spot rs l ls) w refl refl refl refl, refl)))) (λ t. on_place RowTold w Simple m lay t (go simple refl (λ rs l. refl) (λ rs l ls. (row_opens (inside simple rs l ls) w refl refl refl refl, refl)))) at
    where
      go : (s : Spot) → spot_frames s ≡ [] → ((rs : List Row) (l : Level) → spot_names s rs l ≡ stack rs l) → ((rs : List Row) (l : Level) (ls : List Outer) → Opens (call_value val_row) (inside s rs l ls) w × (next w.form (call_value val_row) (inside s rs l ls) ≡ inside (words false) rs l ls)) → (rs : List Row) (l : Level) (ls : List Outer) → Lays (inside s rs l ls) w → RowTold (inside s rs l ls)
      go s e names x rs l ls z =
          pushes_told room (call_value val_row) (inside s rs l ls) w v r list_frame list_frame (TextItem false) (TextItem false) (x rs l ls).0 safe z.holds refl refl
          (λ free. subst (λ q. Lays q (placed (TextItem false) (pushed list_frame w))) (sym (x rs l ls).1) (lays_placed (inside (words false) rs l ls) (TextItem false) (pushed list_frame w) refl (holds_list s rs l ls w e (names rs l) free z.holds))) y
