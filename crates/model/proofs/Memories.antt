-- What a writer holds fits its memory, and it is refused for want of memory only where it would not.
use Rattle.std.proofs.Common.{◌≡◌, ℕ, suc, ◌+◌, ◌-◌, ◌<◌, ◌≤◌, Bool, true, false, cond, ◌&&◌, leb, ◌⊎◌, List, [], ◌∷◌, ◌++◌, length, Some, None, Decides, Option, sym, refl, ap, subst, inl, inr, ⊎_elim, arith, length-append}
use Rattle.std.proofs.lemmas.Bool.{ltb-true, ltb-false, lt-ltb, leb-true, le-leb, both_ways, not-false, cases_lt, cases_Bool, false≢true}
use Rattle.refusal.specs.declared.Refusal.{Refusal}
use Rattle.refusal.specs.declared.Refusal.TheVariants.{Order, Shape, Stack, Depth, Stage, Sink}
use Rattle.style.specs.declared.style.EmptyElementHandling.{EmptyElementHandling}
use Rattle.reader.specs.Trees.{Bytes}
use Rattle.model.specs.Calls.{Value, val_text, val_none, val_variant, val_wrapped, val_row, val_variant_row, val_record, val_variant_record, Call, call_open, call_field, call_value, call_end, call_finish, call_abandon, Key, key_attribute, key_text, key_value, key_element, key, is_text_name}
use Rattle.model.specs.Model.{Level, Row, named_row, Outer, Quote, single, several, quote_place, Spot, element, content, text_spot, simple, words, State, idle, between, inside, quote, complete, stack, flag, spot_place}
use Rattle.model.specs.Step.{on, opens_row, put, moved, moved_if, field, step}
use Rattle.model.specs.Layout.{stage, names, frames, spot_names}
use Rattle.model.specs.Grounds.{allowed, out_of_order, misshapen}
use Rattle.model.specs.Table.{Setting, stage_size, names_size, frames_size, table, first, judged, next, handed, name_brought, value_name, key_name, takes_frame, stack_full, too_deep, stage_full, sink_full}
use Rattle.model.specs.Run.{Session, new, run, moved_on, after}
use Rattle.model.specs.Laws.{FitsMemory, MemorySuffices, WantOfMemory}
use Rattle.model.proofs.Moves.{There, Whenever, moves, land}
use Rattle.model.proofs.Tables.{none_first, when_none}
use Rattle.model.proofs.Stacks.{InState, in_names, in_step}
use Rattle.model.proofs.Frames.{count, frames_count, Counts, count_step}

-- a stack of so many bytes at most
abbrev Short : ℕ → Bytes → Type 0
Short n s = length s ≤ n

-- the invariant: every remembered name stack is short enough, and so are the stage and the frames
record Fit (w : Setting) (st : State) : Type 0 where
  names : InState (Short (names_size w)) st
  frames : count st ≤ frames_size w
  stage : length (stage w.indentation st) ≤ stage_size w

fit_memory : (w : Setting) (st : State) → Fit w st → FitsMemory w st
fit_memory w st h =
    record { stage = h.stage; names = in_names (Short (names_size w)) (omega arith) st h.names; frames = omega (arith, frames_count w.indentation st, h.frames) }

-- a call that brings a name has it on top of the stack afterwards
abbrev Brings : Bytes → Bytes → State → Type 0
Brings before brought n = (length brought ≡ 0) ⊎ (names n ≡ before ++ brought)

module _ (f : EmptyElementHandling) (d : ℕ) (rs : List Row) (l : Level) (ls : List Outer) where
  abbrev Brought : Spot → Value → Type 0
  Brought s v = Whenever (Brings (spot_names s rs l) (value_name v (spot_place s))) (moved_if rs l ls (put f d rs (stack rs l) l.body s v))

  nothing_brought : (s : Spot) (v : Value) (o : Option State) → length (value_name v (spot_place s)) ≡ 0 → Whenever (Brings (spot_names s rs l) (value_name v (spot_place s))) o
  nothing_brought s v None e = tt
  nothing_brought s v (Some n) e = inl e

  content_brought : (p : Bool) (v : Value) → Brought (content p) v
  content_brought p (val_text r s) = inl refl
  content_brought p val_none = inl refl
  content_brought p (val_variant r v) = inl refl
  content_brought p (val_wrapped v) = go (is_text_name v)
    where
      go : (t : Bool) → Brings (stack rs l) (cond t [] v) (moved rs l ls (cond t (on simple l.body) (on (element (stack rs l) v) l.body)))
      go true = inl refl
      go false = inr refl
  content_brought p val_row = inl refl
  content_brought p (val_variant_row v) = go (is_text_name v)
    where
      go : (t : Bool) → Brings (stack rs l) (cond t [] v) (moved rs l ls (cond t (on (words false) l.body) (opens_row (named_row (stack rs l) v (flag rs l.body)))))
      go true = inl refl
      go false = inr refl
  content_brought p (val_record n) = inr refl
  content_brought p (val_variant_record v) = inr refl

  value_brought : (s : Spot) (v : Value) → Brought s v
  value_brought (element u n) v = nothing_brought (element u n) v _ refl
  value_brought (content p) v = content_brought p v
  value_brought text_spot v = nothing_brought text_spot v _ refl
  value_brought simple v = nothing_brought simple v _ refl
  value_brought (words w) v = nothing_brought (words w) v _ refl

field_brought : (q : Key) (l : Level) (ls : List Outer) → Brings (stack [] l) (key_name q) (field q l ls)
field_brought (key_attribute k) l ls = inl refl
field_brought key_text l ls = inl refl
field_brought key_value l ls = inl refl
field_brought (key_element n) l ls = inr refl

none_brought : (before : Bytes) (o : Option State) → Whenever (Brings before []) o
none_brought before None = tt
none_brought before (Some n) = inl refl

quoted_brought : (v : Value) (q : Quote) (l : Level) (ls : List Outer) (o : Option State) → Whenever (Brings (stack [] l) (value_name v (quote_place q))) o
quoted_brought v (single k) l ls o = none_brought (stack [] l) o
quoted_brought v (several k x w) l ls o = none_brought (stack [] l) o

step_brought : (f : EmptyElementHandling) (c : Call) (st : State) → Whenever (Brings (names st) (name_brought c st)) (step f c st)
step_brought f (call_open n) idle = inr refl
step_brought f (call_open n) (between l ls) = tt
step_brought f (call_open n) (inside s rs l ls) = tt
step_brought f (call_open n) (quote q l ls) = tt
step_brought f (call_open n) (complete ms) = tt
step_brought f (call_field k) idle = tt
step_brought f (call_field k) (between l ls) = field_brought (key k) l ls
step_brought f (call_field k) (inside s rs l ls) = tt
step_brought f (call_field k) (quote q l ls) = tt
step_brought f (call_field k) (complete ms) = tt
step_brought f (call_value v) idle = tt
step_brought f (call_value v) (between l ls) = tt
step_brought f (call_value v) (inside s rs l ls) = value_brought f (suc (length ls)) rs l ls s v
step_brought f (call_value v) (quote q l ls) = quoted_brought v q l ls (step f (call_value v) (quote q l ls))
step_brought f (call_value v) (complete ms) = tt
step_brought f call_end st = none_brought (names st) (step f call_end st)
step_brought f call_finish st = none_brought (names st) (step f call_finish st)
step_brought f call_abandon st = none_brought (names st) (step f call_abandon st)

-- one call at a state that fits
module _ (w : Setting) (c : Call) (st : State) (h : Fit w st) (t : There (step w.form c st)) where
  abbrev then : State
  then = next w.form c st

  short_before : length (names st) ≤ names_size w
  short_before = in_names (Short (names_size w)) (omega arith) st h.names

  -- no new stack is too long, where the name that is brought fits
  stacks_fit : stack_full w c st ≡ false → InState (Short (names_size w)) then
  stacks_fit e =
      let a = ltb-false (names_size w - length (names st)) (length (name_brought c st)) e in
      let p : length (names st ++ name_brought c st) ≤ names_size w = omega (arith, length-append (names st) (name_brought c st), a, short_before) in
      land (InState (Short (names_size w))) st (step w.form c st) t (in_step (Short (names_size w)) w.form c st h.names p)

  stack_decides : Decides (stack_full w c st) (names_size w < length (names then))
  stack_decides = (over_full, full)
    where
      over_full : stack_full w c st ≡ true → names_size w < length (names then)
      over_full e =
          let a = ltb-true (names_size w - length (names st)) (length (name_brought c st)) e in
          let b : Brings (names st) (name_brought c st) then = land (Brings (names st) (name_brought c st)) st (step w.form c st) t (step_brought w.form c st) in
          ⊎_elim (λ z. omega (arith, a, z)) (λ q. omega (arith, a, ap length q, length-append (names st) (name_brought c st))) b

      full : names_size w < length (names then) → stack_full w c st ≡ true
      full q =
          ⊎_elim (λ e. e) (λ e. let k : length (names then) ≤ names_size w = in_names (Short (names_size w)) (omega arith) then (stacks_fit e) in absurd (omega (arith, q, k))) (cases_Bool (stack_full w c st))

  counted : Counts (takes_frame c) (count st) (count then)
  counted = land (λ n. Counts (takes_frame c) (count st) (count n)) st (step w.form c st) t (count_step w.form c st)

  depth_by : (k : Bool) → Counts k (count st) (count then) → Decides (k && leb (frames_size w) (count st)) (frames_size w < count then)
  depth_by true e = (λ q. omega (arith, leb-true (frames_size w) (count st) q, e), λ q. le-leb (frames_size w) (count st) (omega (arith, q, e)))
  depth_by false e = (λ q. absurd (false≢true q), λ q. absurd (omega (arith, q, e, h.frames)))

  depth_decides : Decides (too_deep w c st) (frames_size w < length (frames w.indentation then))
  depth_decides =
      subst (λ (x : ℕ). Decides (takes_frame c && leb (frames_size w) x) (frames_size w < length (frames w.indentation then))) (sym (frames_count w.indentation st)) (subst (λ (x : ℕ). Decides (takes_frame c && leb (frames_size w) (count st)) (frames_size w < x)) (sym (frames_count w.indentation then)) (depth_by (takes_frame c) counted))

  stage_decides : Decides (stage_full w c st) (stage_size w < length (stage w.indentation then))
  stage_decides =
      let now = length (stage w.indentation st) in
      let new = length (stage w.indentation then) in
      (λ e. omega (arith, ltb-true (stage_size w - now) (new - now) e, h.stage), λ q. lt-ltb (stage_size w - now) (new - now) (omega (arith, q, h.stage)))

  fit_next : stack_full w c st ≡ false → too_deep w c st ≡ false → stage_full w c st ≡ false → Fit w then
  fit_next a b e =
      record { names = stacks_fit a; frames = ⊎_elim (λ q. absurd (both_ways (too_deep w c st) b (depth_decides.1 (rw (frames_count w.indentation then) q)))) (λ q. q) (cases_lt (frames_size w) (count then)); stage = ⊎_elim (λ q. absurd (both_ways (stage_full w c st) e (stage_decides.1 q))) (λ q. q) (cases_lt (stage_size w) (length (stage w.indentation then))) }

-- what is kept through a run
record Kept (w : Setting) (r : ℕ) (s : Session) : Type 0 where
  fit : Fit w s.model
  room : length s.sink + s.room ≡ r

kept_after : (w : Setting) (r : ℕ) (c : Call) (s : Session) → Kept w r s → (o : Option Refusal) → first (table w s.room c s.model) ≡ o → Kept w r (moved_on s (handed w.indentation c s.model) (judged o (next w.form c s.model)))
kept_after w r c s k (Some e) q = k
kept_after w r c s k None q =
    let st = s.model in
    let n = none_first (table w s.room c st) q in
    let a = not-false (allowed c st) (when_none (out_of_order c st) Order n.0) in
    let t = moves w.form c st a (when_none (misshapen c st) Shape n.1.1.0) in
    let m = n.1.1.1.1.1 in
    let f = fit_next w c st k.fit t (when_none (stack_full w c st) Stack m.0) (when_none (too_deep w c st) Depth m.1.0) (when_none (stage_full w c st) Stage m.1.1.0) in
    let b = handed w.indentation c st in
    let l : length b ≤ s.room = ltb-false s.room (length b) (when_none (sink_full w s.room c st) Sink m.1.1.1.0) in
    record { fit = f; room = omega (arith, length-append s.sink b, k.room, l) }

kept_run : (w : Setting) (r : ℕ) (cs : List Call) (s : Session) → Kept w r s → Kept w r (run w cs s)
kept_run w r [] s k = k
kept_run w r (c ∷ cs) s k = kept_run w r cs (after w c s) (kept_after w r c s k (first (table w s.room c s.model)) refl)

kept_new : (w : Setting) (r : ℕ) → Kept w r (new r)
kept_new w r = record { fit = record { names = tt; frames = omega arith; stage = omega arith }; room = omega arith }

pub memory_suffices : MemorySuffices
memory_suffices w cs r = let k = kept_run w r cs (new r) (kept_new w r) in (fit_memory w (run w cs (new r)).model k.fit, k.room)

pub want_of_memory : WantOfMemory
want_of_memory w cs r c n =
    let st = (run w cs (new r)).model in
    let h = (kept_run w r cs (new r) (kept_new w r)).fit in
    let a = not-false (allowed c st) (when_none (out_of_order c st) Order n.0) in
    let t = moves w.form c st a (when_none (misshapen c st) Shape n.1.1.0) in
    record { stack = stack_decides w c st h t; depth = depth_decides w c st h t; stage = stage_decides w c st h t }
