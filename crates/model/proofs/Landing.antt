-- Where accepted calls lead, step by step, and what a run has in common with that.
use Rattle.std.proofs.Common.{◌≡◌, List, [], ◌∷◌, ◌++◌, Some, None, Option, sym, refl, ap, subst}
use Rattle.refusal.specs.declared.Refusal.{Refusal}
use Rattle.style.specs.declared.style.EmptyElementHandling.{EmptyElementHandling}
use Rattle.model.specs.Calls.{Call, accepted}
use Rattle.model.specs.Model.{State}
use Rattle.model.specs.Step.{step}
use Rattle.model.specs.Table.{Setting, table, first, judged, next, or_stay, handed}
use Rattle.model.specs.Run.{Session, run, answer, answer_of, answers, after, moved_on, all_accepted}
use Rattle.model.specs.Documents.{accepted_calls}
use Rattle.model.specs.Laws.{Grounded}
use Rattle.model.proofs.Moves.{There}
use Rattle.model.proofs.Tables.{answers_by_the_table}

-- the state after calls that are all accepted
abbrev pub landing : EmptyElementHandling → List Call → State → State
landing f [] st = st
landing f (c ∷ cs) st = landing f cs (next f c st)

pub landing-++ : (f : EmptyElementHandling) (xs ys : List Call) (st : State) → landing f (xs ++ ys) st ≡ landing f ys (landing f xs st)
landing-++ f [] ys st = refl
landing-++ f (x ∷ xs) ys st = landing-++ f xs ys (next f x st)

-- the places say of each call what it does
abbrev pub Stepping : EmptyElementHandling → List Call → State → Type 0
Stepping f [] st = Unit {0}
Stepping f (c ∷ cs) st = There (step f c st) × Stepping f cs (next f c st)

pub stepping_front : (f : EmptyElementHandling) (xs ys : List Call) (st : State) → Stepping f (xs ++ ys) st → Stepping f xs st
stepping_front f [] ys st h = tt
stepping_front f (x ∷ xs) ys st h = (h.0, stepping_front f xs ys (next f x st) h.1)

pub stepping_rest : (f : EmptyElementHandling) (xs ys : List Call) (st : State) → Stepping f (xs ++ ys) st → Stepping f ys (landing f xs st)
stepping_rest f [] ys st h = h
stepping_rest f (x ∷ xs) ys st h = stepping_rest f xs ys (next f x st) h.1

abbrev Lands : Setting → List Call → Session → Type 0
Lands w cs s = (run w cs s).model ≡ landing w.form (accepted_calls cs (answers w cs s)) s.model

lands_more : (w : Setting) (c : Call) (cs : List Call) (s : Session) → ((t : Session) → Lands w cs t) → (o : Option Refusal) →
    (run w cs (moved_on s (handed w.indentation c s.model) (judged o (next w.form c s.model)))).model ≡ landing w.form (accepted_calls (c ∷ cs) (answer_of (judged o (next w.form c s.model)) ∷ answers w cs (moved_on s (handed w.indentation c s.model) (judged o (next w.form c s.model))))) s.model
lands_more w c cs s h (Some e) = h s
lands_more w c cs s h None = h (moved_on s (handed w.indentation c s.model) (judged None (next w.form c s.model)))

-- a run ends where its accepted calls lead
pub run_lands : (w : Setting) (cs : List Call) (s : Session) → Lands w cs s
run_lands w [] s = refl
run_lands w (c ∷ cs) s = lands_more w c cs s (λ t. run_lands w cs t) (first (table w s.room c s.model))

pub all_calls : (cs : List Call) → accepted_calls cs (all_accepted cs) ≡ cs
all_calls [] = refl
all_calls (c ∷ cs) = ap (λ x. c ∷ x) (all_calls cs)

there : {A : Type 0} (o : Option A) (a : A) → o ≡ Some a → There o
there o a e = subst There (sym e) tt

-- where all calls of a run are accepted, the places say of each what it does
pub accepted_stepping : (w : Setting) (cs : List Call) (s : Session) → answers w cs s ≡ all_accepted cs → Stepping w.form cs s.model
accepted_stepping w [] s h = tt
accepted_stepping w (c ∷ cs) s h =
    let a : answer w c s ≡ accepted = cc in
    let r : answers w cs (after w c s) ≡ all_accepted cs = cc in
    let g : Grounded w c s accepted = subst (Grounded w c s) a (answers_by_the_table w c s).0 in
    let n : (after w c s).model ≡ next w.form c s.model = sym (ap (or_stay s.model) g.1) in
    (there (step w.form c s.model) (after w c s).model g.1, subst (Stepping w.form cs) n (accepted_stepping w cs (after w c s) r))
