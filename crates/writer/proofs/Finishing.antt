-- A complete record goes to the sink. Assumes nothing.
use Rattle.std.proofs.Common.{◌≡◌, ℕ, ◌+◌, ◌-◌, ◌<◌, min, false, List, ◌++◌, length, take, drop, Ok, Err, sym, refl, ap, ◌∙◌, subst, arith}
use Rattle.std.proofs.lemmas.Bool.{le-ltb}
use Rattle.refusal.specs.declared.Refusal.{Refusal}
use Rattle.refusal.specs.declared.Refusal.TheVariants.{Order, Bytes, Shape, RunOn, Name, Stack, Depth, Stage, Sink, Style}
use Rattle.refusal.specs.Refusals.{Refuses}
use Rattle.sink.specs.Puts.{Puts}
use Rattle.reader.specs.Trees.{Bytes as ByteList}
use Rattle.model.specs.declared.place.Place.TheVariants.{Complete}
use Rattle.model.specs.Marks.{Mark, flatten}
use Rattle.model.specs.Calls.{call_finish}
use Rattle.model.specs.Model.{complete}
use Rattle.model.specs.Table.{verdict, stage_full}
use Rattle.engine.specs.Memory.{emptied, Buf, Mem, Safe}
use Rattle.engine.specs.Lays.{Lays, Beyond, setting, Told}
use Rattle.engine.proofs.Fronts.{past_cut}
use Rattle.engine.proofs.Spots.{on_complete}
use Rattle.engine.proofs.Telling.{no_bytes, Clear, told_ok, told_sink, depth_unasked}
use Rattle.rows.proofs.Rooting.{lays_idle}
use Rattle.writer.specs.Served.{Served, Serves, session}
use Rattle.writer.proofs.Sinking.{refused_stays, accepted_sink, accepted_room}

clear : (ms : List Mark) → Clear call_finish (complete ms)
clear ms = record { order = refl; bytes = no_bytes; shape = refl; text = refl; name = refl }

module _ (w : Mem) (k : ℕ) (safe : Safe w) (ms : List Mark) (lay : Lays (complete ms) w) where
  -- the bytes that are put are the record's
  whole_record : take w.stage.used w.stage.all ≡ flatten w.indentation ms
  whole_record = lay.holds.stage.is

  -- nothing is added to the stage
  stage_free : stage_full (setting w) call_finish (complete ms) ≡ false
  stage_free = le-ltb (min (length w.stage.all) 65536 - length (flatten w.indentation ms)) (0 - length (flatten w.indentation ms)) (omega arith)

  -- the sink has less room
  full : (e : Refusal) (bs : ByteList) → e ≡ Sink → k < length (take w.stage.used w.stage.all) → Served call_finish (Err e) w w bs k bs k (complete ms)
  full e bs is h =
      let t : Told (verdict (setting w) k call_finish (complete ms)) (Err e) w w =
      subst (λ z. Told (verdict (setting w) k call_finish (complete ms)) (Err z) w w) (sym is) (told_sink w k call_finish (complete ms) (clear ms) safe lay.holds (omega (arith, safe.names)) (depth_unasked w k call_finish (complete ms) refl) stage_free (omega (arith, h, ap length whole_record))) in
      let s = refused_stays (verdict (setting w) k call_finish (complete ms)) e w w (session (complete ms) bs k) (flatten w.indentation ms) t in
      record { told = t; held = sym (ap (λ x. x.sink) s); room = sym (ap (λ x. x.room) s) }

  -- it takes the whole record
  put : (bs bs' : ByteList) (k' : ℕ) → bs' ≡ bs ++ take w.stage.used w.stage.all → k' + length (take w.stage.used w.stage.all) ≡ k → Served call_finish (Ok tt) w (emptied w) bs k bs' k' (complete ms)
  put bs bs' k' held room =
      let x = verdict (setting w) k call_finish (complete ms) in
      let s = session (complete ms) bs k in
      let beyond : Beyond w (emptied w) = record { stage = past_cut w.stage 0; names = past_cut w.names 0; frames = past_cut w.frames 0; form = refl; indentation = refl } in
      let t : Told x (Ok tt) w (emptied w) =
      told_ok w k call_finish (complete ms) (emptied w) (clear ms) safe lay.holds (omega (arith, safe.names)) (depth_unasked w k call_finish (complete ms) refl)
      (le-ltb k (length (flatten w.indentation ms)) (omega (arith, room, ap length whole_record))) (lays_idle w) beyond in
      record {
        told = t;
        held = held ∙ ap (λ z. bs ++ z) whole_record ∙ sym (accepted_sink x w (emptied w) s (flatten w.indentation ms) t);
        room = omega (arith, room, ap length whole_record) ∙ sym (accepted_room x w (emptied w) s (flatten w.indentation ms) t);
      }

-- the part in use, from the first byte on
pub all_of_it : (b : Buf ℕ) → take (b.used - 0) (drop 0 b.all) ≡ take b.used b.all
all_of_it b = let e : b.used - 0 ≡ b.used = omega arith in ap (λ n. take n b.all) e

-- the only refusal with number 9 is the sink's
sink_refused : (e : Refusal) → Refuses 9 0 e → e ≡ Sink
sink_refused Order h = absurd (omega (arith, h.0))
sink_refused (Bytes n) h = absurd (omega (arith, h.0))
sink_refused Shape h = absurd (omega (arith, h.0))
sink_refused RunOn h = absurd (omega (arith, h.0))
sink_refused (Name n) h = absurd (omega (arith, h.0))
sink_refused Stack h = absurd (omega (arith, h.0))
sink_refused Depth h = absurd (omega (arith, h.0))
sink_refused Stage h = absurd (omega (arith, h.0))
sink_refused Sink h = refl
sink_refused Style h = absurd (omega (arith, h.0))

module _ (w : Mem) (k : ℕ) (safe : Safe w) (at : w.place ≡ Complete) (rec : ByteList) (is : rec ≡ take w.stage.used w.stage.all) where
  pub sent_full : (e : Refusal) (bs bs' : ByteList) (k' : ℕ) → Puts (Err e) rec bs k bs' k' → Serves call_finish (Err e) w w bs k bs' k'
  sent_full e bs bs' k' h m lay =
      on_complete (λ x. Served call_finish (Err e) w w bs k bs' k' x) w m lay at (λ ms y.
      subst (λ z. Served call_finish (Err e) w w bs k z k' (complete ms)) (sym h.2) (subst (λ z. Served call_finish (Err e) w w bs k bs z (complete ms)) (sym h.3)
      (full w k safe ms y e bs (sink_refused e h.0) (omega (arith, h.1, ap length is)))))

  pub sent_whole : (bs bs' : ByteList) (k' : ℕ) (v : Mem) → Puts (Ok tt) rec bs k bs' k' → v ≡ emptied w → Serves call_finish (Ok tt) w v bs k bs' k'
  sent_whole bs bs' k' v h e m lay =
      on_complete (λ x. Served call_finish (Ok tt) w v bs k bs' k' x) w m lay at (λ ms y.
      subst (λ z. Served call_finish (Ok tt) w z bs k bs' k' (complete ms)) (sym e) (put w k safe ms y bs bs' k' (h.0 ∙ ap (λ z. bs ++ z) is) (ap (λ z. k' + length z) (sym is) ∙ h.1)))
