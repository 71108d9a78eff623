-- A record's calls: it is opened, filled, and sent; where one of them is refused, nothing comes to the sink. Assumes nothing.
use Rattle.std.proofs.Common.{◌≡◌, ◌≢◌, ℕ, true, List, [], ◌∷◌, ◌++◌, Ok, Err, Result, inl, inr, sym, refl, ap, ◌∙◌, subst}
use Rattle.std.proofs.lemmas.List.{append-nil}
use Rattle.std.specs.Result.{is_err}
use Rattle.refusal.specs.declared.Refusal.{Refusal}
use Rattle.reader.specs.Trees.{Bytes}
use Rattle.model.specs.Calls.{Call, call_open, call_finish, Answer, accepted, refused}
use Rattle.model.specs.Model.{State}
use Rattle.model.specs.Table.{verdict, handed}
use Rattle.model.specs.Run.{Session, answers, run, all_accepted}
use Rattle.engine.specs.Memory.{Mem}
use Rattle.engine.specs.Lays.{Lays, setting, Does}
use Rattle.writer.specs.Served.{answered, session, Serves}
use Rattle.writer.specs.Replayed.{Ran}
use Rattle.writer.proofs.Running.{ran_one, ran_then}
use Rattle.writer.proofs.Sinking.{does_serves, refused_stays}
use Rattle.timed.specs.Whole.{Filled, Whole}
use Rattle.timed.proofs.Turns.{all_accepted-++, accepted_both, stopped}

module _ (name : Bytes) (fs : List Call) (w : Mem) (m : State) (bs : Bytes) (k : ℕ) (lay : Lays m w) where
  abbrev first : List Call
  first = call_open name ∷ []

  abbrev last : List Call
  last = call_finish ∷ []

  abbrev start : Session
  start = session m bs k

  opening : (a : Answer) (r : Result (Unit {0}) Refusal) (u : Mem) → answered r ≡ a → ((room : ℕ) → Does (call_open name) room r w u) → Ran first w u bs k bs k (a ∷ []) m
  opening a r u said does = subst (λ z. Ran first w u bs k bs k (z ∷ []) m) said (ran_one (call_open name) r w u bs bs k k (does_serves (call_open name) r w u bs k (λ n. refl) (does k)) m lay)

  -- it is not opened
  pub unopened : (e : Refusal) (u : Mem) → ((room : ℕ) → Does (call_open name) room (Err e) w u) → Whole (setting w) (first ++ (fs ++ last)) start bs k
  unopened e u does = inr (stopped [] (fs ++ last) (call_open name) e w u bs bs k k m (opening (refused e) (Err e) u refl does), refl, refl)

  module _ (u v : Mem) (opens : (room : ℕ) → Does (call_open name) room (Ok tt) w u) where
    opened : Ran first w u bs k bs k (accepted ∷ []) m
    opened = opening accepted (Ok tt) u refl opens

    -- a call behind the first is refused
    pub unfilled : (r : Result (Unit {0}) Refusal) → is_err r ≡ true → Filled fs r u v → Whole (setting w) (first ++ (fs ++ last)) start bs k
    unfilled (Ok done) h fails = absurd (cc)
    unfilled (Err e) h fails =
        let s = run (setting w) first start in
        let here : session s.model bs k ≡ s = ap (λ z. session s.model z k) opened.held ∙ ap (λ z. session s.model s.sink z) opened.room in
        let same : answers (setting u) fs (session s.model bs k) ≡ answers (setting w) fs s = ap (λ z. answers z fs (session s.model bs k)) opened.same ∙ ap (answers (setting w) fs) here in
        inr (λ all. fails s.model bs k opened.memory (same ∙ (accepted_both (setting w) fs last s (accepted_both (setting w) first (fs ++ last) start all).1).0), refl, refl)

    -- the finish is answered
    module _ (z : Mem) (bs' : Bytes) (k' : ℕ) (filled : Filled fs (Ok tt) u v) where
      whole : (a : Answer) (r : Result (Unit {0}) Refusal) → answered r ≡ a → Serves call_finish r v z bs k bs' k' → Ran (first ++ (fs ++ last)) w z bs k bs' k' ((accepted ∷ []) ++ (all_accepted fs ++ (a ∷ []))) m
      whole a r said serves =
          let sent : (n : State) → Lays n v → Ran last v z bs k bs' k' (a ∷ []) n = λ n there. subst (λ x. Ran last v z bs k bs' k' (x ∷ []) n) said (ran_one call_finish r v z bs bs' k k' serves n there) in
          ran_then first (fs ++ last) w u z bs bs bs' k k k' (accepted ∷ []) (all_accepted fs ++ (a ∷ [])) m opened (λ n there. ran_then fs last u v z bs bs bs' k k k' (all_accepted fs) (a ∷ []) n (filled n bs k there) sent)

      sent : Serves call_finish (Ok tt) v z bs k bs' k' → Whole (setting w) (first ++ (fs ++ last)) start bs' k'
      sent serves =
          let ran = whole accepted (Ok tt) refl serves in
          inl (sym ran.told ∙ ap (λ x. accepted ∷ x) (sym (all_accepted-++ fs last)), ran.held, ran.room)

      unsent : (e : Refusal) → Serves call_finish (Err e) v z bs k bs' k' → Whole (setting w) (first ++ (fs ++ last)) start bs' k'
      unsent e serves =
          let ran = whole (refused e) (Err e) refl serves in
          let n = (filled (run (setting w) first start).model bs k opened.memory).memory in
          let s = (run (setting u) fs (session (run (setting w) first start).model bs k)).model in
          let d = serves s n in
          let stays = refused_stays (verdict (setting v) k call_finish s) e v z (session s bs k) (handed v.indentation call_finish s) d.told in
          let fails = stopped (call_open name ∷ fs) [] call_finish e w z bs bs' k k' m ran in
          inr (subst (λ x. answers (setting w) x start ≢ all_accepted x) (append-nil ((call_open name ∷ fs) ++ last)) fails, d.held ∙ ap (λ x. x.sink) stays, d.room ∙ ap (λ x. x.room) stays)

      pub answered_by : (r : Result (Unit {0}) Refusal) → Serves call_finish r v z bs k bs' k' → Whole (setting w) (first ++ (fs ++ last)) start bs' k'
      answered_by (Ok done) serves = sent serves
      answered_by (Err e) serves = unsent e serves
