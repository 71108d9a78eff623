-- What a sink holds is the layout of what the accepted calls alone write.
use Rattle.std.proofs.Common.{◌≡◌, List, [], ◌∷◌, ◌++◌, Some, None, Option, sym, refl, ap, ◌∙◌, append_assoc}
use Rattle.std.proofs.lemmas.List.{append-nil}
use Rattle.refusal.specs.declared.Refusal.{Refusal}
use Rattle.style.specs.declared.indentation.Indentation.{Indentation}
use Rattle.model.specs.Calls.{Call, call_open, call_field, call_value, call_end, call_finish, call_abandon, Answer, accepted, refused}
use Rattle.model.specs.Marks.{Mark, flatten}
use Rattle.model.specs.Model.{State, idle, between, inside, quote, complete}
use Rattle.model.specs.Table.{Setting, table, first, judged, next, handed, record_bytes}
use Rattle.model.specs.Run.{Session, new, writer, run, answer_of, answers, moved_on}
use Rattle.model.specs.Documents.{accepted_calls, document_at, document, documents, layouts}
use Rattle.model.specs.Laws.{Agree, IndentsAlone}

pub layouts-++ : (i : Option Indentation) (xs ys : List (List Mark)) → layouts i (xs ++ ys) ≡ layouts i xs ++ layouts i ys
layouts-++ i [] ys = refl
layouts-++ i (x ∷ xs) ys = ap (λ z. flatten i x ++ z) (layouts-++ i xs ys) ∙ sym (append_assoc (flatten i x) (layouts i xs) (layouts i ys))

record_document : (i : Option Indentation) (st : State) → record_bytes i st ≡ layouts i (document_at st)
record_document i idle = refl
record_document i (between l ls) = refl
record_document i (inside s rs l ls) = refl
record_document i (quote q l ls) = refl
record_document i (complete ms) = sym (append-nil (flatten i ms))

handed_document : (i : Option Indentation) (c : Call) (st : State) → handed i c st ≡ layouts i (document c st)
handed_document i (call_open n) st = refl
handed_document i (call_field k) st = refl
handed_document i (call_value v) st = refl
handed_document i call_end st = refl
handed_document i call_finish st = record_document i st
handed_document i call_abandon st = refl

-- the sink holds the layout of the accepted calls' records, behind what it held
abbrev HoldsLayout : Setting → List Call → Session → Type 0
HoldsLayout w cs s = (run w cs s).sink ≡ s.sink ++ layouts w.indentation (documents w.form (accepted_calls cs (answers w cs s)) s.model)

-- one call, by the first row of the table that applies
sink_more : (w : Setting) (c : Call) (cs : List Call) (s : Session) → ((t : Session) → HoldsLayout w cs t) → (o : Option Refusal) →
    (run w cs (moved_on s (handed w.indentation c s.model) (judged o (next w.form c s.model)))).sink ≡ s.sink ++ layouts w.indentation (documents w.form (accepted_calls (c ∷ cs) (answer_of (judged o (next w.form c s.model)) ∷ answers w cs (moved_on s (handed w.indentation c s.model) (judged o (next w.form c s.model))))) s.model)
sink_more w c cs s h (Some e) = h s
sink_more w c cs s h None =
    let i = w.indentation in
    let b = handed i c s.model in
    let t = moved_on s b (judged None (next w.form c s.model)) in
    let ds = documents w.form (accepted_calls cs (answers w cs t)) (next w.form c s.model) in
    h t ∙ (append_assoc s.sink b (layouts i ds) ∙ ap (λ z. s.sink ++ z) (ap (λ z. z ++ layouts i ds) (handed_document i c s.model) ∙ sym (layouts-++ i (document c s.model) ds)))

pub sink_layout : (w : Setting) (cs : List Call) (s : Session) → HoldsLayout w cs s
sink_layout w [] s = sym (append-nil s.sink)
sink_layout w (c ∷ cs) s = sink_more w c cs s (λ t. sink_layout w cs t) (first (table w s.room c s.model))

pub agree_accepted : (cs : List Call) (qs rs : List Answer) → Agree qs rs → accepted_calls cs qs ≡ accepted_calls cs rs
agree_accepted [] qs rs h = refl
agree_accepted (c ∷ cs) [] [] h = refl
agree_accepted (c ∷ cs) [] (r ∷ rs) h = absurd h
agree_accepted (c ∷ cs) (accepted ∷ qs) [] h = absurd h
agree_accepted (c ∷ cs) (accepted ∷ qs) (accepted ∷ rs) h = ap (λ x. c ∷ x) (agree_accepted cs qs rs h)
agree_accepted (c ∷ cs) (accepted ∷ qs) (refused e ∷ rs) h = absurd h
agree_accepted (c ∷ cs) (refused d ∷ qs) [] h = absurd h
agree_accepted (c ∷ cs) (refused d ∷ qs) (accepted ∷ rs) h = absurd h
agree_accepted (c ∷ cs) (refused d ∷ qs) (refused e ∷ rs) h = agree_accepted cs qs rs h

pub indents_alone : IndentsAlone
indents_alone f i j m n r q cs h =
    let v = writer f i m in
    let w = writer f j n in
    let e = agree_accepted cs (answers v cs (new r)) (answers w cs (new q)) h in
    record { marks = documents f (accepted_calls cs (answers v cs (new r))) idle; one = sink_layout v cs (new r); other = sink_layout w cs (new q) ∙ ap (λ x. layouts j (documents f x idle)) (sym e); by_the_calls = refl; before_a_tag = λ k d. refl }
