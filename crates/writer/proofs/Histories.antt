-- Histories: they begin at a new writer, grow by the promise of each call, and have the laws of runs. Assumes nothing.
use Rattle.std.proofs.Common.{◌≡◌, ℕ, true, false, List, [], ◌∷◌, ◌++◌, None, Option, Result, sym, refl, ap, ◌∙◌, subst}
use Rattle.std.specs.List.{AllByRecursion}
use Rattle.std.specs.Borrow.{MutBor}
use Rattle.refusal.specs.declared.Refusal.{Refusal}
use Rattle.style.specs.declared.indentation.Indentation.{Indentation}
use Rattle.style.specs.declared.style.EmptyElementHandling.{EmptyElementHandling}
use Rattle.reader.specs.Trees.{Bytes}
use Rattle.model.specs.declared.frame.Frame.{Frame}
use Rattle.model.specs.Calls.{Call, call_open, call_field, call_value, call_end, call_finish, call_abandon, Answer}
use Rattle.model.specs.Model.{State, idle}
use Rattle.model.specs.Table.{Memory, Setting, handed}
use Rattle.model.specs.Run.{run, answers, writer, new}
use Rattle.model.specs.Fields.{Field, calls, names_attribute}
use Rattle.model.specs.Documents.{accepted_calls, documents, layouts}
use Rattle.model.specs.Says.{trees}
use Rattle.model.specs.Laws.{sink_after, answers_to, Agree, ReadsExactly, BothOrders}
use Rattle.model.proofs.Tables.{run-++}
use Rattle.model.proofs.ReadsBack.{reads_back}
use Rattle.model.proofs.Documents.{indents_alone}
use Rattle.model.proofs.Settled.{no_indent_after_text}
use Rattle.model.proofs.Depths.{depth_of_indents}
use Rattle.model.proofs.Swapping.{attributes_change_places}
use Rattle.model.specs.Indents.{ElementAt, BytesOfMarks}
use Rattle.engine.specs.Memory.{Mem}
use Rattle.engine.specs.Lays.{Lays, setting, Does}
use Rattle.writer.specs.Starting.{starting}
use Rattle.writer.specs.Served.{session, Serves, answered, HandsNothing}
use Rattle.writer.specs.Replayed.{Ran}
use Rattle.writer.specs.Histories.{History, Alike, LawsOf}
use Rattle.writer.proofs.Starting.{starting_idle}
use Rattle.writer.proofs.Running.{answers-++, ran_one}
use Rattle.writer.proofs.Sinking.{does_serves}

pub history_begins : (f : EmptyElementHandling) (i : Option Indentation) (stage names : MutBor (List ℕ)) (frames : MutBor (List Frame)) (k : ℕ) → History (setting (starting f i stage names frames)) [] [] k (starting f i stage names frames) [] k
history_begins f i stage names frames k = record { writer = refl; memory = starting_idle f i stage names frames; held = refl; room = refl; told = refl }

-- calls behind calls
pub history_grows_by : (x : Setting) (hs cs : List Call) (qs rs : List Answer) (r : ℕ) (w v : Mem) (bs bs' : Bytes) (k k' : ℕ) → History x hs qs r w bs k → ((m : State) → Lays m w → Ran cs w v bs k bs' k' rs m) → History x (hs ++ cs) (qs ++ rs) r v bs' k'
history_grows_by x hs cs qs rs r w v bs bs' k k' h f =
    let s = run x hs (new r) in
    let p = f s.model h.memory in
    let now : session s.model bs k ≡ s = same_session s.model bs s.sink k s.room h.held h.room in
    let ends : run x (hs ++ cs) (new r) ≡ run (setting w) cs (session s.model bs k) =
    run-++ x hs cs (new r) ∙ ap (run x cs) (sym now) ∙ ap (λ z. run z cs (session s.model bs k)) (sym h.writer) in
    let last : rs ≡ answers x cs s = p.told ∙ ap (answers (setting w) cs) now ∙ ap (λ z. answers z cs s) h.writer in
    record {
      writer = p.same ∙ h.writer;
      memory = subst (λ z. Lays z.model v) (sym ends) p.memory;
      held = p.held ∙ sym (ap (λ z. z.sink) ends);
      room = p.room ∙ sym (ap (λ z. z.room) ends);
      told = ap (λ z. z ++ rs) h.told ∙ ap (λ z. answers x hs (new r) ++ z) last ∙ sym (answers-++ x hs cs (new r));
    }
  where
    same_session : (m : State) (a b : Bytes) (i j : ℕ) → a ≡ b → i ≡ j → session m a i ≡ session m b j
    same_session m a b i j p q = cc

pub history_grows : (x : Setting) (cs : List Call) (rs : List Answer) (r : ℕ) (w v : Mem) (bs bs' : Bytes) (k k' : ℕ) (c : Call) (result : Result (Unit {0}) Refusal) → History x cs rs r w bs k → Serves c result w v bs k bs' k' → History x (cs ++ (c ∷ [])) (rs ++ (answered result ∷ [])) r v bs' k'
history_grows x cs rs r w v bs bs' k k' c result h f = history_grows_by x cs (c ∷ []) rs (answered result ∷ []) r w v bs bs' k k' h (ran_one c result w v bs bs' k k' f)

-- nothing is handed to the sink
hands_none : (c : Call) → HandsNothing c → (i : Option Indentation) (m : State) → handed i c m ≡ []
hands_none (call_open n) h i m = refl
hands_none (call_field k) h i m = refl
hands_none (call_value v) h i m = refl
hands_none call_end h i m = refl
hands_none call_finish h i m = absurd h
hands_none call_abandon h i m = refl

pub history_grows_aside : (x : Setting) (cs : List Call) (rs : List Answer) (r : ℕ) (w v : Mem) (bs : Bytes) (k : ℕ) (c : Call) (result : Result (Unit {0}) Refusal) → History x cs rs r w bs k → HandsNothing c → Does c k result w v → History x (cs ++ (c ∷ [])) (rs ++ (answered result ∷ [])) r v bs k
history_grows_aside x cs rs r w v bs k c result h none does = history_grows x cs rs r w v bs bs k k c result h (does_serves c result w v bs k (hands_none c none w.indentation) does)

module _ (x : Setting) (cs : List Call) (rs : List Answer) (r : ℕ) (w : Mem) (bs : Bytes) (k : ℕ) (h : History x cs rs r w bs k) where
  read : x.indentation ≡ None → ReadsExactly bs (trees cs rs)
  read i =
      let at : (j : Option Indentation) → j ≡ None → ReadsExactly (sink_after (writer x.form j x.memory) cs r) (trees cs (answers_to (writer x.form j x.memory) cs r)) =
      λ j e. subst (λ z. ReadsExactly (sink_after (writer x.form z x.memory) cs r) (trees cs (answers_to (writer x.form z x.memory) cs r))) (sym e) (reads_back x.form x.memory r cs) in
      subst (λ z. ReadsExactly z (trees cs rs)) (sym h.held) (subst (λ z. ReadsExactly (sink_after x cs r) (trees cs z)) (sym h.told) (at x.indentation i))

  deep : (bs ≡ layouts x.indentation (documents x.form (accepted_calls cs rs) idle)) × AllByRecursion (ElementAt 0) (documents x.form (accepted_calls cs rs) idle) × BytesOfMarks
  deep =
      subst (λ z. (z ≡ layouts x.indentation (documents x.form (accepted_calls cs rs) idle)) × AllByRecursion (ElementAt 0) (documents x.form (accepted_calls cs rs) idle) × BytesOfMarks) (sym h.held)
      (subst (λ z. (sink_after x cs r ≡ layouts x.indentation (documents x.form (accepted_calls cs z) idle)) × AllByRecursion (ElementAt 0) (documents x.form (accepted_calls cs z) idle) × BytesOfMarks) (sym h.told) (depth_of_indents x cs r))

  alike : (j : Option Indentation) (n : Memory) (q : ℕ) → Agree rs (answers_to (writer x.form j n) cs q) → Alike x.indentation j bs (sink_after (writer x.form j n) cs q) (documents x.form (accepted_calls cs rs) idle)
  alike j n q agree =
      let same = indents_alone x.form x.indentation j x.memory n r q cs (subst (λ z. Agree z (answers_to (writer x.form j n) cs q)) h.told agree) in
      let settled = no_indent_after_text x cs r in
      let here : Alike x.indentation j (sink_after x cs r) (sink_after (writer x.form j n) cs q) (documents x.form (accepted_calls cs (answers_to x cs r)) idle) =
      record { one = settled.0; other = same.other ∙ ap (layouts j) same.by_the_calls; before_a_tag = λ i d. refl; behind_a_tag = settled.1 } in
      subst (λ z. Alike x.indentation j z (sink_after (writer x.form j n) cs q) (documents x.form (accepted_calls cs rs) idle)) (sym h.held)
      (subst (λ z. Alike x.indentation j (sink_after x cs r) (sink_after (writer x.form j n) cs q) (documents x.form (accepted_calls cs z) idle)) (sym h.told) here)

  swapped : (front : List Call) (a c : Field) (rest : List Call) → cs ≡ front ++ ((calls a ++ calls c) ++ rest) → names_attribute a.key ≡ true → names_attribute c.key ≡ false → (n : Memory) (q : ℕ) → BothOrders x (writer x.form x.indentation n) r q front a c rest → bs ≡ sink_after (writer x.form x.indentation n) (front ++ ((calls c ++ calls a) ++ rest)) q
  swapped front a c rest is names_it other n q both =
      h.held ∙ ap (λ z. sink_after x z r) is ∙ attributes_change_places x.form x.indentation x.memory n r q front a c rest names_it other both

  swapped_back : (front : List Call) (a c : Field) (rest : List Call) → cs ≡ front ++ ((calls c ++ calls a) ++ rest) → names_attribute a.key ≡ true → names_attribute c.key ≡ false → (n : Memory) (q : ℕ) → BothOrders (writer x.form x.indentation n) x q r front a c rest → bs ≡ sink_after (writer x.form x.indentation n) (front ++ ((calls a ++ calls c) ++ rest)) q
  swapped_back front a c rest is names_it other n q both =
      h.held ∙ ap (λ z. sink_after x z r) is ∙ sym (attributes_change_places x.form x.indentation n x.memory q r front a c rest names_it other both)

  pub laws_of : LawsOf x cs rs r bs
  laws_of = record { reads_back = read; depth_of_indents = deep; indents_alone = alike; attribute_first = swapped; child_first = swapped_back }
