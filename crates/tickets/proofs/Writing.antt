-- The calls of a record, one by one, are a run, and so the laws of runs tell what the sink reads back as. Assumes nothing.
use Rattle.std.proofs.Common.{◌≡◌, ℕ, List, [], ◌∷◌, ◌++◌, codes, Ok, Err, Result, sym, refl, ap, ◌∙◌, subst, ⊎_elim, arith}
use Rattle.std.specs.List.{AllByRecursion}
use Rattle.std.proofs.lemmas.List.{append-nil, append_assoc}
use Rattle.refusal.specs.declared.Refusal.{Refusal}
use Rattle.reader.specs.Trees.{Bytes}
use Rattle.model.specs.Calls.{Call, call_open, call_finish, Answer, accepted, refused}
use Rattle.model.specs.Table.{Setting, verdict, handed}
use Rattle.model.specs.Run.{all_accepted, answers, run, new}
use Rattle.model.specs.Laws.{answers_to}
use Rattle.engine.specs.Memory.{Mem}
use Rattle.engine.specs.Lays.{setting, Does}
use Rattle.places.specs.Sound.{Sound}
use Rattle.writer.specs.Served.{HandsNothing, session}
use Rattle.writer.specs.Histories.{History}
use Rattle.writer.specs.Histories.{New}
use Rattle.writer.proofs.Histories.{history_grows, history_grows_aside, laws_of}
use Rattle.writer.proofs.Replaying.{history_begins_idle}
use Rattle.writer.proofs.Running.{answers-++}
use Rattle.writer.proofs.Sinking.{refused_stays}
use Rattle.tickets.specs.Settling.{Makes, fields, HandsIn, Settles}
use Rattle.tickets.specs.Writing.{sheet_calls, first_refusal, Written}

-- nothing is refused and accepted at once
clash : {A : Type 0} (e : Refusal) → ◌≡◌ {A = Result (Unit {0}) Refusal} (Ok tt) (Err e) → A
clash e h = let z : ◌≡◌ {A = ℕ} 0 1 = cc in absurd (omega (arith, z))

-- calls that are made and all accepted, behind those of a history
makes_history : (fs : List Call) → AllByRecursion HandsNothing fs → (x : Setting) (cs : List Call) (rs : List Answer) (r : ℕ) (w v : Mem) (bs : Bytes) (k : ℕ) → History x cs rs r w bs k → Makes fs (Ok tt) w v → History x (cs ++ fs) (rs ++ all_accepted fs) r v bs k
makes_history [] aside x cs rs r w v bs k h m =
    subst (λ z. History x z (rs ++ []) r v bs k) (sym (append-nil cs)) (subst (λ z. History x cs z r v bs k) (sym (append-nil rs)) (subst (λ z. History x cs rs r z bs k) (sym m.1) h))
makes_history (f ∷ fs) aside x cs rs r w v bs k h m =
    ⊎_elim
    (λ made.
    let one = history_grows_aside x cs rs r w made.0 bs k f (Ok tt) h aside.0 (made.1 k) in
    let rest = makes_history fs aside.1 x (cs ++ (f ∷ [])) (rs ++ (accepted ∷ [])) r made.0 v bs k one made.2 in
    subst (λ z. History x z (rs ++ (accepted ∷ all_accepted fs)) r v bs k) (append_assoc cs (f ∷ []) fs) (subst (λ z. History x ((cs ++ (f ∷ [])) ++ fs) z r v bs k) (append_assoc rs (accepted ∷ []) (all_accepted fs)) rest))
    (λ stopped. clash stopped.0 stopped.2)
    m

-- answers that are all accepted, before any others
abbrev Passed : List Answer → Type 0
Passed rs = (qs : List Answer) → first_refusal (rs ++ qs) ≡ first_refusal qs

passes : (rs : List Answer) → Passed rs → Passed (rs ++ (accepted ∷ []))
passes rs past qs = ap first_refusal (append_assoc rs (accepted ∷ []) qs) ∙ past (accepted ∷ qs)

-- a call that is refused behind accepted ones is the first, whatever calls come behind it
first_there : (x : Setting) (cs rest : List Call) (rs : List Answer) (c : Call) (e : Refusal) (r : ℕ) (w : Mem) (bs : Bytes) (k : ℕ) → Passed rs → History x (cs ++ (c ∷ [])) (rs ++ (refused e ∷ [])) r w bs k → first_refusal (answers_to x (cs ++ (c ∷ rest)) r) ≡ Err e
first_there x cs rest rs c e r w bs k past h =
    let front = cs ++ (c ∷ []) in
    let behind = answers x rest (run x front (new r)) in
    let split : answers_to x (cs ++ (c ∷ rest)) r ≡ rs ++ (refused e ∷ behind) =
    ap (λ z. answers_to x z r) (sym (append_assoc cs (c ∷ []) rest)) ∙ answers-++ x front rest (new r) ∙ ap (λ z. z ++ behind) (sym h.told) ∙ append_assoc rs (refused e ∷ []) behind in
    ap first_refusal split ∙ past (refused e ∷ behind)

-- so it is with calls that are made up to the first that is refused
makes_first : (fs rest : List Call) → AllByRecursion HandsNothing fs → (x : Setting) (cs : List Call) (rs : List Answer) (e : Refusal) (r : ℕ) (w v : Mem) (bs : Bytes) (k : ℕ) → Passed rs → History x cs rs r w bs k → Makes fs (Err e) w v → first_refusal (answers_to x (cs ++ (fs ++ rest)) r) ≡ Err e
makes_first [] rest aside x cs rs e r w v bs k past h m = clash e (sym m.0)
makes_first (f ∷ fs) rest aside x cs rs e r w v bs k past h m =
    ⊎_elim
    (λ made.
    let one = history_grows_aside x cs rs r w made.0 bs k f (Ok tt) h aside.0 (made.1 k) in
    let more = makes_first fs rest aside.1 x (cs ++ (f ∷ [])) (rs ++ (accepted ∷ [])) e r made.0 v bs k (passes rs past) one made.2 in
    subst (λ z. first_refusal (answers_to x z r) ≡ Err e) (append_assoc cs (f ∷ []) (fs ++ rest)) more)
    (λ stopped.
    let one = history_grows_aside x cs rs r w v bs k f (Err stopped.0) h aside.0 (stopped.1 k) in
    first_there x cs (fs ++ rest) rs f stopped.0 r v bs k past one ∙ sym stopped.2)
    m

-- a record that is refused, which leaves the sink alone
left_out : (trail : Bytes) (x : Setting) (k : ℕ) (bs : Bytes) (e : Refusal) → first_refusal (answers_to x (sheet_calls trail) k) ≡ Err e → bs ≡ [] → Written trail (Err e) x k bs
left_out trail x k bs e first none = record { told = sym first; reads_back = λ ok. clash e (sym ok); stays = λ d is. none }

module _ (trail : Bytes) (w u : Mem) (bs : Bytes) (k : ℕ) (sound : Sound w) (n : New w bs) where
  begins : History (setting w) [] [] k w bs k
  begins = history_begins_idle w bs k sound n

  -- the record is not even open
  pub not_opened : (e : Refusal) → ((room : ℕ) → Does (call_open (codes "sheet")) room (Err e) w u) → Written trail (Err e) (setting w) k bs
  not_opened e refuses =
      let one = history_grows_aside (setting w) [] [] k w u bs k (call_open (codes "sheet")) (Err e) begins tt (refuses k) in
      left_out trail (setting w) k bs e (first_there (setting w) [] (fields trail ++ (call_finish ∷ [])) [] (call_open (codes "sheet")) e k u bs k (λ qs. refl) one) n.empty

  module _ (opened : (room : ℕ) → Does (call_open (codes "sheet")) room (Ok tt) w u) where
    open_now : History (setting w) (call_open (codes "sheet") ∷ []) (accepted ∷ []) k u bs k
    open_now = history_grows_aside (setting w) [] [] k w u bs k (call_open (codes "sheet")) (Ok tt) begins tt (opened k)

    -- its fields are written
    filled : (v : Mem) → Makes (fields trail) (Ok tt) u v → History (setting w) (call_open (codes "sheet") ∷ fields trail) (accepted ∷ all_accepted (fields trail)) k v bs k
    filled v made = makes_history (fields trail) (tt, (tt, (tt, (tt, (tt, tt))))) (setting w) (call_open (codes "sheet") ∷ []) (accepted ∷ []) k u v bs k open_now made

    -- it is handed in, and read back
    handed_in : (v y : Mem) (bs' : Bytes) (k' : ℕ) (r : Result (Unit {0}) Refusal) → Makes (fields trail) (Ok tt) u v → HandsIn r v y bs k bs' k' → Written trail r (setting w) k bs'
    handed_in v y bs' k' (Ok done) made serves =
        let whole = history_grows (setting w) (call_open (codes "sheet") ∷ fields trail) (accepted ∷ all_accepted (fields trail)) k v y bs bs' k k' call_finish (Ok done) (filled v made) serves in
        record {
          told = ap first_refusal whole.told;
          reads_back = λ ok plain. (laws_of (setting w) _ _ k y bs' k' whole).reads_back plain;
          stays = λ e is. clash e is;
        }
    handed_in v y bs' k' (Err e) made there =
        let m = (run (setting w) (call_open (codes "sheet") ∷ fields trail) (new k)).model in
        let d = there.1 m (filled v made).memory in
        let same : bs' ≡ bs = d.held ∙ ap (λ s. s.sink) (refused_stays (verdict (setting v) k call_finish m) e v there.0 (session m bs k) (handed v.indentation call_finish m) d.told) in
        let one = history_grows (setting w) (call_open (codes "sheet") ∷ fields trail) (accepted ∷ all_accepted (fields trail)) k v there.0 bs bs' k k' call_finish (Err e) (filled v made) there.1 in
        left_out trail (setting w) k bs' e (first_there (setting w) (call_open (codes "sheet") ∷ fields trail) [] (accepted ∷ all_accepted (fields trail)) call_finish e k there.0 bs' k' (λ qs. refl) one) (same ∙ n.empty)

    -- however the fields were taken
    pub written : (made : Result (Unit {0}) Refusal) (r : Result (Unit {0}) Refusal) (v y : Mem) (bs' : Bytes) (k' : ℕ) → Makes (fields trail) made u v → Settles made r v y bs k bs' k' → Written trail r (setting w) k bs'
    written (Ok x) r v y bs' k' makes settles = handed_in v y bs' k' r makes settles
    written (Err e) r v y bs' k' makes settles =
        let first = makes_first (fields trail) (call_finish ∷ []) (tt, (tt, (tt, (tt, (tt, tt))))) (setting w) (call_open (codes "sheet") ∷ []) (accepted ∷ []) e k u v bs k (λ qs. refl) open_now makes in
        subst (λ z. Written trail z (setting w) k bs') (sym settles.0.0) (left_out trail (setting w) k bs' e first (settles.1 ∙ n.empty))
