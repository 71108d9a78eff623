-- How far a script is taken: the lines so far and what was written of the writers before the last, and what stops it.
use Rattle.std.proofs.Common.{◌≡◌, ℕ, true, false, List, [], ◌∷◌, ◌++◌, map, Some, None, Option, Ok, Err, Result, refl, sym, ap, ◌∙◌, subst, inl, inr, append_assoc}
use Rattle.std.proofs.lemmas.List.{append-nil}
use Rattle.script.specs.declared.line.Line.{Line}
use Rattle.script.specs.declared.line.Numbered.{Numbered}
use Rattle.script.specs.declared.fault.ScriptError.{ScriptError}
use Rattle.script.specs.declared.fault.Fault.TheVariants as fault
use Rattle.script.specs.declared.order.Phase.TheVariants.{SettingUp}
use Rattle.script.specs.declared.order.Role.TheVariants.{Starts, Calls}
use Rattle.script.specs.Order.{role}
use Rattle.script.specs.Says.{Says}
use Rattle.script.specs.Cuts.{first_line, blank}
use Rattle.script.specs.Script.{Reader, Next}
use Rattle.feed.specs.declared.batch.Batch.{Batch}
use Rattle.feed.specs.Batches.{Stays}
use Rattle.feed.specs.Setups.{GoesOn}
use Rattle.feed.specs.Sections.{Section, shown, IsBatchOf, at_start, opened, longer}
use Rattle.feed.proofs.Sections.{falls_longer, falls_opened}
use Rattle.refusal.specs.declared.Refusal.{Refusal}
use Rattle.runner.specs.declared.running.Ran.{Ran}
use Rattle.runner.specs.declared.feeding.Output.{Output}
use Rattle.runner.specs.declared.stop.Stop.{Stop}
use Rattle.runner.specs.declared.stop.Stop.TheVariants.{Script, Io}
use Rattle.runner.specs.Running.{Becomes, WantsMemory}
use Rattle.runner.specs.Feeding.{Written, nothing, then, Runs, Held, Gains, Gives, AllGive, Reads, start, Reached, Due, Feeds, Ends, BreaksOff, Takes}
use Rattle.runner.proofs.Lines.{appends_none, appends_then}

pub gains_none : (a : Held) → Gains a a nothing
gains_none a = (appends_none a.out, appends_none a.err)

pub gains_then : (a b c : Held) (v w : Written) → Gains a b v → Gains b c w → Gains a c (then v w)
gains_then a b c v w p q = (appends_then a.out b.out c.out v.out w.out p.0 q.0, appends_then a.err b.err c.err v.err w.err p.1 q.1)

then_nothing : (w : Written) → then w nothing ≡ w
then_nothing w = ap (λ x. record { out = x; err = w.err ++ [] }) (append-nil w.out) ∙ ap (λ x. record { out = w.out; err = x }) (append-nil w.err)

then_assoc : (u v w : Written) → then (then u v) w ≡ then u (then v w)
then_assoc u v w =
    ap (λ x. record { out = x; err = (u.err ++ v.err) ++ w.err }) (append_assoc u.out v.out w.out)
    ∙ ap (λ x. record { out = u.out ++ (v.out ++ w.out); err = x }) (append_assoc u.err v.err w.err)

-- one writer more is done
all_give : (o : Output) (ss : List Section) (s : Section) (b : Batch) (w v : Written) → AllGive o ss w → IsBatchOf s b → Gives o b v → AllGive o (ss ++ s ∷ []) (then w v)
all_give o [] s b w v far is gives = (b, v, nothing, is, gives, refl, ap (λ x. then x v) far ∙ sym (then_nothing v))
all_give o (t ∷ ts) s b w v far is gives = (far.0, far.1, then far.2 v, far.3, far.4, all_give o ts s b far.2 v far.5 is gives, ap (λ x. then x v) far.6 ∙ then_assoc far.1 far.2 v)

reads_more : (ns : List Numbered) (n : Numbered) (r s t : Reader) → Reads r ns s → Next (Ok (Some n)) s t → Reads r (ns ++ n ∷ []) t
reads_more [] n r s t here next = (t, subst (λ x. Next (Ok (Some n)) x t) here next, refl)
reads_more (m ∷ ms) n r s t far next = (far.0, far.1, reads_more ms n far.0 s t far.2 next)

start_is : (r : Reader) (text : List ℕ) → r.rest ≡ text → r.read ≡ 0 → r.phase ≡ SettingUp → r ≡ start text
start_is r text rest read phase =
    ap (λ x. record { rest = x; read = r.read; phase = r.phase }) rest
    ∙ ap (λ x. record { rest = text; read = x; phase = r.phase }) read
    ∙ ap (λ x. record { rest = text; read = 0; phase = x }) phase

pub reached_start : (o : Output) (text : List ℕ) (r : Reader) (b : Batch) → r.rest ≡ text → r.read ≡ 0 → r.phase ≡ SettingUp → IsBatchOf at_start b → Reached o text r b nothing
reached_start o text r b rest read phase is = record {
  lines = [];
  reads = start_is r text rest read phase;
  done = [];
  last = at_start;
  falls = ((refl, tt, tt), refl);
  batch = is;
  gives = refl;
}

-- the writer goes on
reached_longer : (o : Output) (text : List ℕ) (r r' : Reader) (b b' : Batch) (w : Written) (n : Numbered) (h : Reached o text r b w) → Next (Ok (Some n)) r r' → GoesOn n → IsBatchOf (longer h.last n) b' → Reached o text r' b' w
reached_longer o text r r' b b' w n h next on is = record {
  lines = h.lines ++ n ∷ [];
  reads = reads_more h.lines n (start text) r r' h.reads next;
  done = h.done;
  last = longer h.last n;
  falls = falls_longer h.lines h.done h.last n h.falls on;
  batch = is;
  gives = h.gives;
}

-- the next writer begins
reached_opened : (o : Output) (text : List ℕ) (r r' : Reader) (b b' : Batch) (w v : Written) (n : Numbered) → Reached o text r b w → Next (Ok (Some n)) r r' → role n.line ≡ Starts → IsBatchOf (opened n) b' → Gives o b v → Reached o text r' b' (then w v)
reached_opened o text r r' b b' w v n h next new is gives = record {
  lines = h.lines ++ n ∷ [];
  reads = reads_more h.lines n (start text) r r' h.reads next;
  done = h.done ++ h.last ∷ [];
  last = opened n;
  falls = falls_opened h.lines h.done h.last n h.falls new;
  batch = is;
  gives = all_give o h.done h.last b w v h.gives h.batch gives;
}

-- a line that makes a call says something
call_not_blank : (l : Line) (text : List ℕ) → role l ≡ Calls → Says l text → blank text ≡ false
call_not_blank l text call (inl h) = let no : ⊥ = cc (ap role h.1) in absurd no
call_not_blank l text call (inr h) = h.2.begins.says

-- a call that there is no memory for is a line with an error
call_lacks : (n : Numbered) (r r' : Reader) (e : ScriptError) → role n.line ≡ Calls → Next (Ok (Some n)) r r' → e ≡ record { line = n.number; fault = fault.Memory } → Next (Err e) r (record { rest = r'.rest; read = r'.read; phase = r.phase })
call_lacks n r r' e call next is =
    subst (λ x. Next (Err x) r (record { rest = r'.rest; read = r'.read; phase = r.phase })) (sym is) (record { some = next.0.some; rest = next.0.rest; read = next.0.read }, next.1, inl (call_not_blank n.line (first_line r.rest) call next.2), refl)

-- the batch that no line was added to
reached_stays : (o : Output) (text : List ℕ) (r : Reader) (b b' : Batch) (w : Written) → Reached o text r b w → Stays b b' → Reached o text r b' w
reached_stays o text r b b' w h same = record {
  lines = h.lines;
  reads = h.reads;
  done = h.done;
  last = h.last;
  falls = h.falls;
  batch = record { setup = same.setup ∙ h.batch.setup; calls = ap (map shown) same.calls ∙ h.batch.calls; reports = same.reports ∙ h.batch.reports };
  gives = h.gives;
}

module _ (o : Output) (text : List ℕ) (r r' : Reader) (b : Batch) (w : Written) (a m z : Held) (far : Reached o text r b w) (gained : Gains a m w) where
  gains_same : Gains m z nothing → Gains a z w
  gains_same g = subst (λ x. Gains a z x) (then_nothing w) (gains_then a m z w nothing gained g)

  due : (line : Result (Option Numbered) ScriptError) → Next line r r' → Runs o b line → Due o text b w
  due line next runs = record { reader = r; after = r'; line = line; reached = far; next = next; runs = runs }

  pub line_taken : (b' : Batch) (n : Numbered) (x : Unit {0}) → Next (Ok (Some n)) r r' → Takes o b n b' (Ok x) m z → (u : Written) × Reached o text r' b' u × Gains a z u
  line_taken b' n x next (inl (None, goes, ends)) =
      (w, reached_longer o text r r' b b' w n far next goes.0 (goes.1 far.last far.batch), gains_same ends.1)
  line_taken b' n x next (inl (Some d, goes, ends)) =
      (then w ends.0, reached_opened o text r r' b b' w ends.0 n far next goes.0 goes.2 (subst (λ y. Gives o y ends.0) goes.1 ends.1), gains_then a m z w ends.0 gained ends.2)
  line_taken b' n x next (inr h) = absurd h.2

  pub script_stops : (e : ScriptError) (result : Result (Unit {0}) Stop) → Next (Err e) r r' → BreaksOff o b e result m z → Feeds o text result a z
  script_stops e (Ok x) next h = absurd h
  script_stops e (Err (Script f)) next (inl h) =
      (then w h.1, inl (record { reader = r; after = r'; batch = b; before = w; own = h.1; reached = far; fault = subst (λ x. Next (Err x) r r') (sym h.0) next; gives = h.2; is = refl }), gains_then a m z w h.1 gained h.3)
  script_stops e (Err (Script f)) next (inr h) =
      (w, inr (b, due (Err e) next h.0, h.1), gains_same h.2)
  script_stops e (Err (Io f)) next h = (b, w, due (Err e) next h.0, h.1)

  pub script_ends : (result : Result (Unit {0}) Stop) → Next (Ok None) r r' → Ends o b result m z → Feeds o text result a z
  script_ends (Ok x) next h =
      (then w h.0, record { reader = r; batch = b; before = w; own = h.0; reached = far; end = next.0; gives = h.1; is = refl }, gains_then a m z w h.0 gained h.2)
  script_ends (Err (Script f)) next h =
      (w, inr (b, due (Ok None) next h.0, h.1), gains_same h.2)
  script_ends (Err (Io f)) next h = (b, w, due (Ok None) next h.0, h.1)

-- a line that is not taken ends the script
pub line_fails : (o : Output) (text : List ℕ) (r r' : Reader) (b b' : Batch) (w : Written) (a m z : Held) (n : Numbered) (s : Stop) → Reached o text r b w → Gains a m w → Next (Ok (Some n)) r r' → Takes o b n b' (Err s) m z → Feeds o text (Err s) a z
line_fails o text r r' b b' w a m z n s far gained next (inl (None, goes, ends)) = let no : ⊥ = cc (ends.0) in absurd no
line_fails o text r r' b b' w a m z n (Io e) far gained next (inl (Some d, goes, ends)) =
    let runs = subst (λ y. y.reported ≡ true) goes.1 ends.0 in
    (b, w, due o text r r' b w a m z far gained (Ok (Some n)) next (runs, goes.0), subst (λ y. (x : Result Ran Refusal) × Becomes y x) goes.1 ends.1)
line_fails o text r r' b b' w a m z n (Script e) far gained next (inl (Some d, goes, ends)) =
    let runs = subst (λ y. y.reported ≡ true) goes.1 ends.0 in
    (w, inr (b, due o text r r' b w a m z far gained (Ok (Some n)) next (runs, goes.0), subst (λ y. WantsMemory y e) goes.1 ends.1), gains_same o text r r' b w a m z far gained ends.2)
line_fails o text r r' b b' w a m z n s far gained next (inr h) =
    let lacks : ScriptError = record { line = n.number; fault = fault.Memory } in
    let after : Reader = record { rest = r'.rest; read = r'.read; phase = r.phase } in
    script_stops o text r after b' w a m z (reached_stays o text r b b' w far h.1) gained lacks (Err s) (call_lacks n r r' lacks h.0 next refl) h.2
