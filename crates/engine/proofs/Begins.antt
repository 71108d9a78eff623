-- Calls that bring a name or open a record: their answer from what the code's step says it did. Assumes nothing.
use Rattle.std.proofs.Common.{◌≡◌, ℕ, ◌+◌, ◌<◌, ◌≤◌, Bool, true, false, List, [], ◌∷◌, ◌++◌, length, None, Ok, Err, Result, sym, refl, ap, ◌∙◌, subst, inl, inr, ⊎_elim, arith}
use Rattle.refusal.specs.declared.Refusal.{Refusal}
use Rattle.refusal.specs.declared.Refusal.TheVariants.{Stage}
use Rattle.refusal.specs.Refusals.{offset}
use Rattle.xml.specs.Names.{name_fault}
use Rattle.style.specs.declared.result.WriteResult.{WriteResult}
use Rattle.model.specs.declared.frame.Frame.{Frame}
use Rattle.model.specs.declared.frame.Kind.{Kind}
use Rattle.model.specs.declared.place.Place.{Place}
use Rattle.model.specs.declared.place.Place.TheVariants.{Element}
use Rattle.model.specs.Calls.{Call}
use Rattle.model.specs.Model.{Level, Row, Outer, element, content, State, between, inside, place, stack}
use Rattle.model.specs.Layout.{stage}
use Rattle.model.specs.Frames.{new_frame}
use Rattle.model.specs.Grounds.{out_of_order, ill_formed, misshapen, runs_on, misnamed}
use Rattle.model.specs.Table.{verdict, next, name_brought, takes_frame, handed}
use Rattle.engine.specs.Memory.{Buf, Mem, Safe, grown, with_names, name_put, appended, placed}
use Rattle.engine.specs.Lays.{row_stacks, outer_stacks, Holds, Lays, Past, Beyond, setting, Told}
use Rattle.engine.specs.Opening.{FrameFree, Named, Awaits, begun, Opens}
use Rattle.engine.proofs.Fronts.{front_length, front_grown, begins_self, begins_more, nested_rest, past_same, past_grown, past_set}
use Rattle.engine.proofs.Telling.{Clear, told_name, told_stack, told_depth, told_stage, told_ok, depth_is_free, depth_unasked, sink_unasked}

-- a call that brings this name to the name stack, and has passed the first four rows
pub record Names (c : Call) (m : State) (n : List ℕ) (w : Mem) : Type 0 where
  pub order : out_of_order c m ≡ false
  pub bytes : ill_formed c ≡ false
  pub shape : misshapen c m ≡ false
  pub text : runs_on c m ≡ false
  pub fault : misnamed c m ≡ name_fault n
  pub brought : name_brought c m ≡ n
  pub handed : handed w.indentation c m ≡ []

-- a record that opens changes nothing past the parts in use, nor do names that do not
pub beyond_begun : (w : Mem) (b : Buf ℕ) (bs : List ℕ) (from : ℕ) → Past w.names b → w.stage.used + length bs ≤ length w.stage.all → Beyond w (begun from (with_names (appended bs w) b))
beyond_begun w b bs from names fits =
    record {
      stage = past_grown w.stage bs fits;
      names = names;
      frames = past_set w.frames w.frames.used (w.frames.used + 1) (new_frame (w.stage.used + length bs) b.used from) (omega arith);
      form = refl;
      indentation = refl;
    }

-- two frames of a kind are the same where their flag and numbers are
abbrev pub framed : Kind → WriteResult → Bool → ℕ → ℕ → ℕ → Frame
framed kind last flag tag keep from = record { kind = kind; flag = flag; last = last; tag = tag; keep = keep; from = from }

pub same_frame : {k : Kind} {r : WriteResult} {g h : Bool} {t s j i a b : ℕ} → g ≡ h → t ≡ s → j ≡ i → a ≡ b → framed k r g t j a ≡ framed k r h s i b
same_frame p q x y = cc

-- the place is set last
pub lays_placed : (m : State) (p : Place) (w : Mem) → p ≡ place m → Holds m w → Lays m (placed p w)
lays_placed m p w e h = record { holds = record { stage = h.stage; names = h.names; frames = h.frames; records = h.records; wordy = h.wordy; fit = h.fit }; place = e }

-- at a value of a field, no row is open in the record
pub holds_child : (p : Bool) (l : Level) (ls : List Outer) (w : Mem) → Holds (between l ls) w → Holds (inside (content p) [] l ls) w
holds_child p l ls w h = record { stage = h.stage; names = h.names; frames = h.frames; records = h.records; wordy = h.wordy; fit = (begins_self (l.under ++ l.name), h.fit) }

-- the name of an element that is still to come
pub holds_name : (p : Bool) (rs : List Row) (l : Level) (ls : List Outer) (w : Mem) (n : List ℕ) → w.names.used + length n ≤ length w.names.all → Holds (inside (content p) rs l ls) w → Holds (inside (element (stack rs l) n) rs l ls) (name_put n w)
holds_name p rs l ls w n fits h =
    record {
      stage = h.stage;
      names = front_grown w.names (stack rs l) n fits h.names;
      frames = h.frames;
      records = h.records;
      wordy = h.wordy;
      fit = nested_rest (stack rs l ++ n) (stack rs l) (row_stacks rs ++ ((l.under ++ l.name) ∷ outer_stacks ls)) (begins_more (stack rs l) n) h.fit;
    }

pub lays_element : (p : Bool) (rs : List Row) (l : Level) (ls : List Outer) (w : Mem) (n : List ℕ) → w.names.used + length n ≤ length w.names.all → Holds (inside (content p) rs l ls) w → Lays (inside (element (stack rs l) n) rs l ls) (placed (Element w.names.used) (name_put n w))
lays_element p rs l ls w n fits h =
    lays_placed (inside (element (stack rs l) n) rs l ls) (Element w.names.used) (name_put n w) (ap Element (front_length w.names (stack rs l) h.names)) (holds_name p rs l ls w n fits h)

module _ (room : ℕ) (c : Call) (m : State) (n : List ℕ) (w : Mem) (k : Names c m n w) (safe : Safe w) (h : Holds m w) where
  pub names_clear : name_fault n ≡ None → Clear c m
  names_clear e = record { order = k.order; bytes = k.bytes; shape = k.shape; text = k.text; name = k.fault ∙ e }

  pub names_fit : w.names.used + length n ≤ length w.names.all → w.names.used + length (name_brought c m) ≤ length w.names.all
  names_fit f = omega (arith, ap length k.brought, f)

  -- refused for its name
  pub named_told : (e : Refusal) → Named {A = Unit {0}} (Err e) n w → Told (verdict (setting w) room c m) (Err e) w w
  named_told e (inl f) = subst (λ x. Told (verdict (setting w) room c m) (Err x) w w) (sym f.1) (told_name w room c m (offset e) k.order k.bytes k.shape k.text (k.fault ∙ f.0))
  named_told e (inr s) =
      subst (λ x. Told (verdict (setting w) room c m) (Err x) w w) (sym s.1) (told_stack w room c m (names_clear s.0) safe h (omega (arith, ap length k.brought, s.2)))

  -- the next value becomes an element of the name
  pub awaits_told : (r : Result (Unit {0}) Refusal) (v : Mem) → takes_frame c ≡ false → (w.names.used + length n ≤ length w.names.all → Lays (next w.form c m) (placed (Element w.names.used) (name_put n w))) → Awaits r n w v → Told (verdict (setting w) room c m) r w v
  awaits_told (Ok x) v t lay a =
      let beyond : Beyond w (placed (Element w.names.used) (name_put n w)) =
      record { stage = past_same w.stage; names = past_grown w.names n a.0.1; frames = past_same w.frames; form = refl; indentation = refl } in
      told_ok w room c m v (names_clear a.0.0) safe h (names_fit a.0.1) (depth_unasked w room c m t) (sink_unasked w room c m k.handed)
      (subst (λ x. Lays (next w.form c m) x) (sym a.1) (lay a.0.1)) (subst (λ x. Beyond w x) (sym a.1) beyond)
  awaits_told (Err e) v t lay a = subst (λ x. Told (verdict (setting w) room c m) (Err e) w x) (sym a.1) (named_told e a.0)

  -- a frame is wanted where none is free
  pub unframed_told : (e : Refusal) → takes_frame c ≡ true → Named {A = Unit {0}} (Ok tt) n w → FrameFree (Err e) w → Told (verdict (setting w) room c m) (Err e) w w
  unframed_told e t y d = subst (λ x. Told (verdict (setting w) room c m) (Err x) w w) (sym d.0) (told_depth w room c m (names_clear y.0) safe h (names_fit y.1) t d.1)

  -- there is no room for the start of its tag
  unstaged_told : (bs : List ℕ) (e : Refusal) → Named {A = Unit {0}} (Ok tt) n w → length (stage w.indentation (next w.form c m)) ≡ w.stage.used + length bs → FrameFree (Ok tt) w × (e ≡ Stage) × (length w.stage.all < w.stage.used + length bs) → Told (verdict (setting w) room c m) (Err e) w w
  unstaged_told bs e y size s =
      subst (λ x. Told (verdict (setting w) room c m) (Err x) w w) (sym s.1)
      (told_stage w room c m (names_clear y.0) safe h (names_fit y.1) (depth_is_free w room c m safe h.frames s.0) (omega (arith, size, s.2)))

  -- a record of the name opens behind a lead
  pub opens_told : (lead : List ℕ) (r : Result (Unit {0}) Refusal) (v : Mem) → takes_frame c ≡ true → (w.names.used + length n ≤ length w.names.all → length (stage w.indentation (next w.form c m)) ≡ w.stage.used + length (lead ++ n)) → (w.names.used + length n ≤ length w.names.all → w.frames.used < length w.frames.all → w.stage.used + length (lead ++ n) ≤ length w.stage.all → Lays (next w.form c m) (begun w.names.used (name_put n (appended (lead ++ n) w)))) → Opens r lead n w v → Told (verdict (setting w) room c m) r w v
  opens_told lead (Ok x) v t size lay o =
      told_ok w room c m v (names_clear o.0.0) safe h (names_fit o.0.1) (depth_is_free w room c m safe h.frames o.1) (sink_unasked w room c m k.handed)
      (subst (λ y. Lays (next w.form c m) y) (sym o.3) (lay o.0.1 o.1 o.2)) (subst (λ y. Beyond w y) (sym o.3) (beyond_begun w (grown w.names n) (lead ++ n) w.names.used (past_grown w.names n o.0.1) o.2))
  opens_told lead (Err e) v t size lay o =
      subst (λ y. Told (verdict (setting w) room c m) (Err e) w y) (sym o.0)
      (⊎_elim (λ f. named_told e f) (λ y. ⊎_elim (λ d. unframed_told e t y.0 d) (λ s. unstaged_told (lead ++ n) e y.0 (size y.0.1) s) y.1) o.1)
