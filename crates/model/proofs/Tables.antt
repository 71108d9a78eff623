-- The first row of the table that applies decides, and a refusal leaves everything as it was.
use Rattle.std.proofs.Common.{◌≡◌, ℕ, suc, ◌+◌, Bool, true, false, List, [], ◌∷◌, ◌++◌, length, Some, None, Option, sym, refl, ap, ◌∙◌, arith}
use Rattle.std.proofs.lemmas.Bool.{not-false}
use Rattle.refusal.specs.declared.Refusal.{Refusal}
use Rattle.refusal.specs.declared.Refusal.TheVariants.{Order, Bytes as BytesAt, Shape, RunOn, Stack, Depth, Stage, Sink}
use Rattle.refusal.specs.Refusals.{number}
use Rattle.reader.specs.Trees.{Bytes}
use Rattle.model.specs.Strings.{whole}
use Rattle.model.specs.Calls.{Call, refused}
use Rattle.model.specs.Model.{State}
use Rattle.model.specs.Step.{step}
use Rattle.model.specs.Grounds.{allowed, out_of_order, ill_formed, string_of, misshapen, runs_on, misnamed}
use Rattle.model.specs.Table.{Setting, table, first, when, fault_at, judged, Verdict, refuse, accept, verdict, next, handed, stack_full, too_deep, stage_full, sink_full}
use Rattle.model.specs.Run.{Session, run, answer_of, answers, after, moved_on}
use Rattle.model.specs.Laws.{NoneApplies, Grounded, AnswersByTheTable, RefusedMeansUnchanged}
use Rattle.model.proofs.Moves.{moves, landed}

-- the refusal of a row has this number
Own : ℕ → Option Refusal → Type 0
Own k None = Unit {0}
Own k (Some e) = number e ≡ k

-- the rows are numbered from k on
Numbered : ℕ → List (Option Refusal) → Type 0
Numbered k [] = Unit {0}
Numbered k (r ∷ rows) = Own k r × Numbered (suc k) rows

own_when : (b : Bool) (e : Refusal) → Own (number e) (when b e)
unfolding Own
own_when true e = refl
own_when false e = tt

own_fault : (o : Option ℕ) → Own 5 (fault_at o)
unfolding Own
own_fault None = tt
own_fault (Some k) = refl

table_numbered : (w : Setting) (room : ℕ) (c : Call) (st : State) → Numbered 1 (table w room c st)
unfolding Numbered
table_numbered w room c st =
    (own_when (out_of_order c st) Order, (own_when (ill_formed c) (BytesAt (whole (string_of c))), (own_when (misshapen c st) Shape, (own_when (runs_on c st) RunOn, (own_fault (misnamed c st), (own_when (stack_full w c st) Stack, (own_when (too_deep w c st) Depth, (own_when (stage_full w c st) Stage, (own_when (sink_full w room c st) Sink, tt)))))))))

-- as `First-to-apply`, for rows that are numbered from k + 1 on
record FirstFrom (k : ℕ) (rows : List (Option Refusal)) (e : Refusal) : Type 0 where
  earlier : List (Option Refusal)
  later : List (Option Refusal)
  split : rows ≡ earlier ++ (Some e ∷ later)
  clear : NoneApplies earlier
  numbered : number e ≡ length earlier + suc k

first_decides : (k : ℕ) (rows : List (Option Refusal)) (e : Refusal) → Numbered (suc k) rows → first rows ≡ Some e → FirstFrom k rows e
unfolding Numbered Own
first_decides k [] e n h = let z : ◌≡◌ {A = ℕ} 0 1 = cc in absurd (omega (arith, z))
first_decides k (None ∷ rows) e n h =
    let r = first_decides (suc k) rows e n.1 h in
    let m : number e ≡ suc (length r.earlier) + suc k = omega (arith, r.numbered) in
    record { earlier = None ∷ r.earlier; later = r.later; split = ap (λ x. None ∷ x) r.split; clear = (refl, r.clear); numbered = m }
first_decides k (Some d ∷ rows) e n h =
    let p : d ≡ e = cc in
    let m : number e ≡ 0 + suc k = omega (arith, ap number p, n.0) in
    record { earlier = []; later = rows; split = ap (λ x. Some x ∷ rows) p; clear = tt; numbered = m }

pub none_first : (rows : List (Option Refusal)) → first rows ≡ None → NoneApplies rows
none_first [] h = tt
none_first (None ∷ rows) h = (refl, none_first rows h)
none_first (Some d ∷ rows) h = let z : ◌≡◌ {A = ℕ} 0 1 = cc in absurd (omega (arith, z))

first_none : (rows : List (Option Refusal)) → NoneApplies rows → first rows ≡ None
first_none [] h = refl
first_none (None ∷ rows) h = first_none rows h.1
first_none (Some d ∷ rows) h = h.0

pub when_none : (b : Bool) (e : Refusal) → when b e ≡ None → b ≡ false
when_none true e h = let z : ◌≡◌ {A = ℕ} 0 1 = cc in absurd (omega (arith, z))
when_none false e h = refl

pub fault_none : (o : Option ℕ) → fault_at o ≡ None → o ≡ None
fault_none None h = refl
fault_none (Some k) h = let z : ◌≡◌ {A = ℕ} 0 1 = cc in absurd (omega (arith, z))

module _ (w : Setting) (c : Call) (s : Session) where
  abbrev rows : List (Option Refusal)
  rows = table w s.room c s.model

  -- an accepted call does what the places say
  accepted_steps : first rows ≡ None → step w.form c s.model ≡ Some (after w c s).model
  accepted_steps e =
      let n = none_first rows e in
      let a = not-false (allowed c s.model) (when_none (out_of_order c s.model) Order n.0) in
      let m = when_none (misshapen c s.model) Shape n.1.1.0 in
      let p : step w.form c s.model ≡ Some (next w.form c s.model) = landed (step w.form c s.model) s.model (moves w.form c s.model a m) in
      let q : (after w c s).model ≡ next w.form c s.model = ap (λ o. (moved_on s (handed w.indentation c s.model) (judged o (next w.form c s.model))).model) e in
      p ∙ ap Some (sym q)

  grounded : (o : Option Refusal) → first rows ≡ o → Grounded w c s (answer_of (judged o (next w.form c s.model)))
  grounded None e = (none_first rows e, accepted_steps e)
  grounded (Some x) e =
      let f = first_decides 0 rows x (table_numbered w s.room c s.model) e in
      record { earlier = f.earlier; later = f.later; split = f.split; clear = f.clear; numbered = f.numbered }

pub answers_by_the_table : AnswersByTheTable
answers_by_the_table w c s =
    (grounded w c s (first (rows w c s)) refl, λ n. ap (λ o. answer_of (judged o (next w.form c s.model))) (first_none (rows w c s) n))

pub run-++ : (w : Setting) (xs ys : List Call) (s : Session) → run w (xs ++ ys) s ≡ run w ys (run w xs s)
run-++ w [] ys s = refl
run-++ w (x ∷ xs) ys s = run-++ w xs ys (after w x s)

stays : (v : Verdict) (s : Session) (bs : Bytes) (e : Refusal) → answer_of v ≡ refused e → moved_on s bs v ≡ s
stays (refuse d) s bs e h = refl
stays (accept st) s bs e h = let z : ◌≡◌ {A = ℕ} 0 1 = cc in absurd (omega (arith, z))

pub refused_means_unchanged : RefusedMeansUnchanged
refused_means_unchanged w s front c rest e h =
    let t = run w front s in
    let k : after w c t ≡ t = stays (verdict w t.room c t.model) t (handed w.indentation c t.model) e h in
    (run-++ w front (c ∷ []) s ∙ k, run-++ w front (c ∷ rest) s ∙ (ap (run w rest) k ∙ sym (run-++ w front rest s)), ap (answers w rest) k)
