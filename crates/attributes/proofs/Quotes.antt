-- An attribute that is not complete: bytes put in behind what stands of it. Assumes nothing.
use Rattle.std.proofs.Common.{◌≡◌, ℕ, suc, ◌+◌, ◌<◌, List, [], ◌∷◌, ◌++◌, length, Ok, Err, Option, Result, sym, ap, subst, arith}
use Rattle.refusal.specs.declared.Refusal.{Refusal}
use Rattle.refusal.specs.declared.Refusal.TheVariants.{Stage}
use Rattle.style.specs.declared.indentation.Indentation.{Indentation}
use Rattle.style.specs.declared.result.WriteResult.TheVariants.{Element as element_result}
use Rattle.model.specs.declared.place.Place.{Place}
use Rattle.model.specs.declared.frame.Kind.TheVariants.{Record as record_kind}
use Rattle.model.specs.Calls.{Call}
use Rattle.model.specs.Marks.{flatten}
use Rattle.model.specs.Model.{Level, Outer, Quote, State, between, quote, place}
use Rattle.model.specs.Step.{with_attribute}
use Rattle.model.specs.Layout.{stage, pending, tag_end, record_frame, outer_frames, quote_frames}
use Rattle.model.specs.Table.{verdict, next}
use Rattle.engine.specs.Memory.{Mem, Safe, in_tag, placed}
use Rattle.engine.specs.Lays.{Front, Nested, outer_stacks, Holds, Lays, Beyond, setting, Told}
use Rattle.engine.proofs.Fronts.{front_as}
use Rattle.engine.proofs.Tags.{tag_end_closed, Tag, tag_depth, tag_size, tag_grows, tag_beyond}
use Rattle.engine.proofs.Begins.{lays_placed}
use Rattle.engine.proofs.Telling.{Clear, Small, told_small, told_small_full}
use Rattle.attributes.specs.Inserts.{Inserts}

-- the open tag with what stands of the attribute
pub quote_tag : (q : Quote) (l : Level) (ls : List Outer) (w : Mem) → Holds (quote q l ls) w → Tag w l ls (pending q) (quote_frames q)
quote_tag q l ls w h = record { stage = h.stage; frames = h.frames }

-- how many frames are in use: those around the record, its own, and a list's
pub quote_depth : (q : Quote) (l : Level) (ls : List Outer) (w : Mem) → Holds (quote q l ls) w → w.frames.used ≡ length (outer_frames w.indentation ls) + suc (length (quote_frames q))
quote_depth q l ls w h = tag_depth w l ls (pending q) (quote_frames q) (quote_tag q l ls w h)

-- what was written is one of the attributes now
pub stage_attribute : (i : Option Indentation) (l : Level) (ls : List Outer) (a : List ℕ) → stage i (between (with_attribute l a) ls) ≡ tag_end i l ls a ++ flatten i l.body.kids
stage_attribute i l ls a = sym (ap (λ z. z ++ flatten i l.body.kids) (tag_end_closed i l ls a))

-- so the attribute is complete
pub holds_attribute : (l : Level) (ls : List Outer) (w : Mem) (a : List ℕ) → Tag w l ls a [] → Front w.names (l.under ++ l.name) → w.records ≡ suc (length ls) → w.wordy ≡ l.body.wordy → Nested (l.under ++ l.name) (outer_stacks ls) → Holds (between (with_attribute l a) ls) w
holds_attribute l ls w a t n r d f =
    let i = w.indentation in
    let xs = outer_frames i ls in
    let frame : record_frame i l ls a ≡ record_frame i (with_attribute l a) ls [] =
    ap (λ z. record { kind = record_kind; flag = l.body.flag; last = element_result; tag = length z; keep = length (l.under ++ l.name); from = length l.under }) (tag_end_closed i l ls a) in
    record {
      stage = front_as w.stage (tag_end i l ls a ++ flatten i l.body.kids) (stage i (between (with_attribute l a) ls)) (sym (stage_attribute i l ls a)) t.stage;
      names = n;
      frames = front_as w.frames (xs ++ (record_frame i l ls a ∷ [])) (xs ++ (record_frame i (with_attribute l a) ls [] ∷ [])) (ap (λ z. xs ++ (z ∷ [])) frame) t.frames;
      records = r;
      wordy = d;
      fit = f;
    }

-- bytes that do not fit
pub quote_full : (room : ℕ) (c : Call) (q : Quote) (l : Level) (ls : List Outer) (w : Mem) (bs : List ℕ) (m' : State) → Clear c (quote q l ls) → Small c (quote q l ls) w → Safe w → Lays (quote q l ls) w → next w.form c (quote q l ls) ≡ m' → stage w.indentation m' ≡ tag_end w.indentation l ls (pending q ++ bs) ++ flatten w.indentation l.body.kids → length w.stage.all < w.stage.used + length bs → Told (verdict (setting w) room c (quote q l ls)) (Err Stage) w w
quote_full room c q l ls w bs m' clear small safe lay leads e full =
    told_small_full w room c (quote q l ls) clear small safe lay.holds
    (omega (arith, full, ap (λ z. length (stage w.indentation z)) leads, ap length e, tag_size w l ls (pending q) (quote_frames q) (quote_tag q l ls w lay.holds) bs))

-- from what the step says it did
pub inserts_told : (room : ℕ) (c : Call) (q : Quote) (l : Level) (ls : List Outer) (w v : Mem) (k : ℕ) (bs : List ℕ) (r : Result (Unit {0}) Refusal) (p : Place) (m' : State) → Clear c (quote q l ls) → Small c (quote q l ls) w → Safe w → Lays (quote q l ls) w → k ≡ length (outer_frames w.indentation ls) → next w.form c (quote q l ls) ≡ m' → p ≡ place m' → stage w.indentation m' ≡ tag_end w.indentation l ls (pending q ++ bs) ++ flatten w.indentation l.body.kids → (Tag (in_tag k bs w) l ls (pending q ++ bs) (quote_frames q) → Holds m' (in_tag k bs w)) → Inserts r k bs p w v → Told (verdict (setting w) room c (quote q l ls)) r w v
inserts_told room c q l ls w v k bs (Ok x) p m' clear small safe lay at leads e s hold y =
    let t = quote_tag q l ls w lay.holds in
    let beyond : Beyond w (placed p (in_tag k bs w)) = tag_beyond w l ls (pending q) (quote_frames q) k at t bs p y.0 in
    let laid = lays_placed m' p (in_tag k bs w) e (hold (tag_grows w l ls (pending q) (quote_frames q) k at t bs y.0)) in
    told_small w room c (quote q l ls) v clear small safe lay.holds (subst (λ z. Lays z v) (sym leads) (subst (λ z. Lays m' z) (sym y.1) laid)) (subst (λ z. Beyond w z) (sym y.1) beyond)
inserts_told room c q l ls w v k bs (Err x) p m' clear small safe lay at leads e s hold y =
    let refused = quote_full room c q l ls w bs m' clear small safe lay leads s y.2 in
    rw (y.0, y.1) refused
