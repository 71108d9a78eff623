-- The rows of the table bar what has no step, and of what has one nothing but for want of memory, bytes, names and permission.
use Rattle.std.proofs.Common.{◌≡◌, ℕ, ◌+◌, Bool, true, false, cond, not, ◌&&◌, ◌⊎◌, ◌≢◌, inl, inr, List, [], ◌∷◌, Some, None, Option, sym, refl, ap, ◌∙◌, arith}
use Rattle.std.proofs.lemmas.Bool.{true≢false, false≢true, not-false, and_parts, and_from}
use Rattle.refusal.specs.declared.Refusal.{Refusal}
use Rattle.refusal.specs.declared.Refusal.TheVariants.{Order, Bytes as BytesAt, Shape, RunOn, Stack, Depth, Stage, Sink}
use Rattle.style.specs.declared.style.EmptyElementHandling.{EmptyElementHandling}
use Rattle.xml.specs.Names.{name_fault}
use Rattle.reader.specs.Trees.{Bytes}
use Rattle.model.specs.Strings.{null, whole}
use Rattle.model.specs.Calls.{Value, val_text, val_none, val_variant, val_wrapped, val_row, val_variant_row, val_record, val_variant_record, Call, call_open, call_field, call_value, call_end, call_finish, call_abandon, Key, key_attribute, key_text, key_value, key_element, key, is_text_name}
use Rattle.model.specs.Model.{Body, Level, Row, named_row, content_row, Outer, Spot, element, content, text_spot, simple, words, Quote, single, several, State, idle, between, inside, quote, complete, spot_place, quote_place}
use Rattle.model.specs.Step.{put_element, put_text, put_simple, put_word, put_single, put_several, put_quote, moved_if, requoted_if, step}
use Rattle.model.specs.Grounds.{sort, value_sort, is_idle, is_field, is_value, is_complete, allowed, out_of_order, ill_formed, string_of, misshapen, no_element, no_text, no_item, misfit, is_text, runs_on, behind, key_fault, content_fault, misnamed}
use Rattle.model.specs.Table.{Setting, table, when, fault_at, or_stay, stack_full, too_deep, stage_full, sink_full}
use Rattle.model.specs.Taken.{InOrder, open_idle, field_between, value_inside, value_quoted, end_of_record, end_of_named_row, end_of_content_row, end_of_list, end_of_quoted_list, finish_complete, abandon_between, abandon_inside, abandon_quoted, abandon_complete, TextRecord, text_record, TextBarred, a_string, text_wrapped, text_row, Names, root, attribute, child, variant, wrapped, variant_row, a_record, variant_record, Faulty, RowsAndSteps}
use Rattle.model.proofs.Moves.{moves, landed}

spot_sort : (s : Spot) → sort (spot_place s) ≡ value_sort
spot_sort (element u n) = refl
spot_sort (content p) = refl
spot_sort text_spot = refl
spot_sort simple = refl
spot_sort (words w) = refl

quote_sort : (q : Quote) → sort (quote_place q) ≡ value_sort
quote_sort (single k) = refl
quote_sort (several k v w) = refl

-- a call is in order, or has no step
data Sorted (f : EmptyElementHandling) (c : Call) (st : State) : Type 0 where
  in_order : InOrder c st → Sorted f c st
  stray : allowed c st ≡ false → step f c st ≡ None → Sorted f c st

module _ (f : EmptyElementHandling) where
  sorted_end : (s : Spot) (rs : List Row) (l : Level) (ls : List Outer) → Sorted f call_end (inside s rs l ls)
  sorted_end (element u n) [] l ls = stray refl refl
  sorted_end (element u n) (named_row t m g ∷ rs) l ls = in_order end_of_named_row
  sorted_end (element u n) (content_row t r g ∷ rs) l ls = stray refl refl
  sorted_end (content p) [] l ls = stray refl refl
  sorted_end (content p) (named_row t m g ∷ rs) l ls = stray refl refl
  sorted_end (content p) (content_row t r g ∷ rs) l ls = in_order end_of_content_row
  sorted_end text_spot rs l ls = stray refl refl
  sorted_end simple rs l ls = stray refl refl
  sorted_end (words w) rs l ls = in_order end_of_list

  sorted_quote_end : (q : Quote) (l : Level) (ls : List Outer) → Sorted f call_end (quote q l ls)
  sorted_quote_end (single k) l ls = stray refl refl
  sorted_quote_end (several k v w) l ls = in_order end_of_quoted_list

  sorted : (c : Call) (st : State) → Sorted f c st
  sorted (call_open n) idle = in_order open_idle
  sorted (call_open n) (between l ls) = stray refl refl
  sorted (call_open n) (inside s rs l ls) = stray (ap is_idle (spot_sort s)) refl
  sorted (call_open n) (quote q l ls) = stray (ap is_idle (quote_sort q)) refl
  sorted (call_open n) (complete ms) = stray refl refl
  sorted (call_field k) idle = stray refl refl
  sorted (call_field k) (between l ls) = in_order field_between
  sorted (call_field k) (inside s rs l ls) = stray (ap is_field (spot_sort s)) refl
  sorted (call_field k) (quote q l ls) = stray (ap is_field (quote_sort q)) refl
  sorted (call_field k) (complete ms) = stray refl refl
  sorted (call_value v) idle = stray refl refl
  sorted (call_value v) (between l ls) = stray refl refl
  sorted (call_value v) (inside s rs l ls) = in_order value_inside
  sorted (call_value v) (quote q l ls) = in_order value_quoted
  sorted (call_value v) (complete ms) = stray refl refl
  sorted call_end idle = stray refl refl
  sorted call_end (between l ls) = in_order end_of_record
  sorted call_end (inside s rs l ls) = sorted_end s rs l ls
  sorted call_end (quote q l ls) = sorted_quote_end q l ls
  sorted call_end (complete ms) = stray refl refl
  sorted call_finish idle = stray refl refl
  sorted call_finish (between l ls) = stray refl refl
  sorted call_finish (inside s rs l ls) = stray (ap is_complete (spot_sort s)) refl
  sorted call_finish (quote q l ls) = stray (ap is_complete (quote_sort q)) refl
  sorted call_finish (complete ms) = in_order finish_complete
  sorted call_abandon idle = stray refl refl
  sorted call_abandon (between l ls) = in_order abandon_between
  sorted call_abandon (inside s rs l ls) = in_order abandon_inside
  sorted call_abandon (quote q l ls) = in_order abandon_quoted
  sorted call_abandon (complete ms) = in_order abandon_complete

order_allowed : {c : Call} {st : State} → InOrder c st → allowed c st ≡ true
order_allowed open_idle = refl
order_allowed field_between = refl
order_allowed (value_inside {s = s}) = ap is_value (spot_sort s)
order_allowed (value_quoted {q = q}) = ap is_value (quote_sort q)
order_allowed end_of_record = refl
order_allowed end_of_named_row = refl
order_allowed end_of_content_row = refl
order_allowed end_of_list = refl
order_allowed end_of_quoted_list = refl
order_allowed finish_complete = refl
order_allowed abandon_between = refl
order_allowed (abandon_inside {s = s}) = ap (λ x. not (is_idle x)) (spot_sort s)
order_allowed (abandon_quoted {q = q}) = ap (λ x. not (is_idle x)) (quote_sort q)
order_allowed abandon_complete = refl

allowed_order : (f : EmptyElementHandling) (c : Call) (st : State) → allowed c st ≡ true → InOrder c st
allowed_order f c st e = go (sorted f c st)
  where
    go : Sorted f c st → InOrder c st
    go (in_order o) = o
    go (stray n s) = absurd (true≢false (sym e ∙ n))

stray_stays : (f : EmptyElementHandling) (c : Call) (st : State) → out_of_order c st ≡ true → step f c st ≡ None
stray_stays f c st e = go (sorted f c st)
  where
    go : Sorted f c st → step f c st ≡ None
    go (in_order o) = absurd (true≢false (sym e ∙ ap not (order_allowed o)))
    go (stray n s) = s

-- what a place does not take does nothing there
module _ (f : EmptyElementHandling) (d : ℕ) (rs : List Row) (b : Body) where
  no_element_put : (u n : Bytes) (v : Value) → no_element v ≡ true → put_element f d rs b u n v ≡ None
  no_element_put u n (val_text r s) e = absurd (false≢true e)
  no_element_put u n val_none e = absurd (false≢true e)
  no_element_put u n (val_variant r v) e = absurd (false≢true e)
  no_element_put u n (val_wrapped v) e = refl
  no_element_put u n val_row e = absurd (false≢true e)
  no_element_put u n (val_variant_row v) e = refl
  no_element_put u n (val_record m) e = absurd (false≢true e)
  no_element_put u n (val_variant_record v) e = refl

  no_text_put : (v : Value) → no_text v ≡ true → put_text b v ≡ None
  no_text_put (val_text r s) e = absurd (false≢true e)
  no_text_put val_none e = absurd (false≢true e)
  no_text_put (val_variant r v) e = absurd (false≢true e)
  no_text_put (val_wrapped v) e = refl
  no_text_put val_row e = absurd (false≢true e)
  no_text_put (val_variant_row v) e = refl
  no_text_put (val_record m) e = refl
  no_text_put (val_variant_record v) e = refl

  no_simple_put : (v : Value) → no_text v ≡ true → put_simple b v ≡ None
  no_simple_put (val_text r s) e = absurd (false≢true e)
  no_simple_put val_none e = absurd (false≢true e)
  no_simple_put (val_variant r v) e = absurd (false≢true e)
  no_simple_put (val_wrapped v) e = refl
  no_simple_put val_row e = absurd (false≢true e)
  no_simple_put (val_variant_row v) e = refl
  no_simple_put (val_record m) e = refl
  no_simple_put (val_variant_record v) e = refl

  no_word_put : (w : Bool) (v : Value) → no_item v ≡ true → put_word w b v ≡ None
  no_word_put w (val_text r s) e = absurd (false≢true e)
  no_word_put w val_none e = refl
  no_word_put w (val_variant r v) e = absurd (false≢true e)
  no_word_put w (val_wrapped v) e = refl
  no_word_put w val_row e = refl
  no_word_put w (val_variant_row v) e = refl
  no_word_put w (val_record m) e = refl
  no_word_put w (val_variant_record v) e = refl

no_single_put : (k : Bytes) (v : Value) → no_text v ≡ true → put_single k v ≡ None
no_single_put k (val_text r s) e = absurd (false≢true e)
no_single_put k val_none e = absurd (false≢true e)
no_single_put k (val_variant r v) e = absurd (false≢true e)
no_single_put k (val_wrapped v) e = refl
no_single_put k val_row e = absurd (false≢true e)
no_single_put k (val_variant_row v) e = refl
no_single_put k (val_record m) e = refl
no_single_put k (val_variant_record v) e = refl

no_several_put : (k s : Bytes) (w : Bool) (v : Value) → no_item v ≡ true → put_several k s w v ≡ None
no_several_put k s w (val_text r t) e = absurd (false≢true e)
no_several_put k s w val_none e = refl
no_several_put k s w (val_variant r v) e = absurd (false≢true e)
no_several_put k s w (val_wrapped v) e = refl
no_several_put k s w val_row e = refl
no_several_put k s w (val_variant_row v) e = refl
no_several_put k s w (val_record m) e = refl
no_several_put k s w (val_variant_record v) e = refl

no_quote_put : (q : Quote) (v : Value) → misfit v (quote_place q) ≡ true → put_quote q v ≡ None
no_quote_put (single k) v e = no_single_put k v e
no_quote_put (several k s w) v e = no_several_put k s w v e

module _ (f : EmptyElementHandling) where
  -- a content place takes all but one
  misfit_content : (p : Bool) (rs : List Row) (l : Level) (ls : List Outer) (v : Value) → misshapen (call_value v) (inside (content p) rs l ls) ≡ true → TextRecord (call_value v) (inside (content p) rs l ls)
  misfit_content p rs l ls (val_text r s) e = absurd (false≢true e)
  misfit_content p rs l ls val_none e = absurd (false≢true e)
  misfit_content p rs l ls (val_variant r v) e = absurd (false≢true e)
  misfit_content p rs l ls (val_wrapped v) e = absurd (false≢true e)
  misfit_content p rs l ls val_row e = absurd (false≢true e)
  misfit_content p rs l ls (val_variant_row v) e = absurd (false≢true e)
  misfit_content p rs l ls (val_record n) e = absurd (false≢true e)
  misfit_content p rs l ls (val_variant_record v) e = text_record e

  abbrev NoStep : Call → State → Type 0
  NoStep c st = (step f c st ≡ None) ⊎ TextRecord c st

  misfit_inside : (s : Spot) (rs : List Row) (l : Level) (ls : List Outer) (v : Value) → misshapen (call_value v) (inside s rs l ls) ≡ true → NoStep (call_value v) (inside s rs l ls)
  misfit_inside (element u n) rs l ls v e = inl (ap (moved_if rs l ls) (no_element_put f _ rs l.body u n v e))
  misfit_inside (content p) rs l ls v e = inr (misfit_content p rs l ls v e)
  misfit_inside text_spot rs l ls v e = inl (ap (moved_if rs l ls) (no_text_put f 0 rs l.body v e))
  misfit_inside simple rs l ls v e = inl (ap (moved_if rs l ls) (no_simple_put f 0 rs l.body v e))
  misfit_inside (words w) rs l ls v e = inl (ap (moved_if rs l ls) (no_word_put f 0 rs l.body w v e))

  misfit_stays : (c : Call) (st : State) → misshapen c st ≡ true → NoStep c st
  misfit_stays (call_open n) st e = absurd (false≢true e)
  misfit_stays (call_field k) st e = absurd (false≢true e)
  misfit_stays (call_value v) idle e = absurd (false≢true e)
  misfit_stays (call_value v) (between l ls) e = absurd (false≢true e)
  misfit_stays (call_value v) (inside s rs l ls) e = misfit_inside s rs l ls v e
  misfit_stays (call_value v) (quote q l ls) e = inl (ap (requoted_if l ls) (no_quote_put q v e))
  misfit_stays (call_value v) (complete ms) e = absurd (false≢true e)
  misfit_stays call_end st e = absurd (false≢true e)
  misfit_stays call_finish st e = absurd (false≢true e)
  misfit_stays call_abandon st e = absurd (false≢true e)

text_record_misfit : {c : Call} {st : State} → TextRecord c st → misshapen c st ≡ true
text_record_misfit (text_record e) = e

text_record_steps : (f : EmptyElementHandling) {c : Call} {st : State} → TextRecord c st → (next : State) × (step f c st ≡ Some next)
text_record_steps f (text_record e) = (_, refl)

-- text where none is allowed
barred_content : (v : Value) (rs : List Row) (l : Level) (ls : List Outer) → is_text v ≡ true → TextBarred (call_value v) (inside (content false) rs l ls)
barred_content (val_text r []) rs l ls e = absurd (false≢true e)
barred_content (val_text r (b ∷ s)) rs l ls e = a_string (λ h. false≢true (ap null h))
barred_content val_none rs l ls e = absurd (false≢true e)
barred_content (val_variant r v) rs l ls e = absurd (false≢true e)
barred_content (val_wrapped v) rs l ls e = text_wrapped e
barred_content val_row rs l ls e = absurd (false≢true e)
barred_content (val_variant_row v) rs l ls e = text_row e
barred_content (val_record n) rs l ls e = absurd (false≢true e)
barred_content (val_variant_record v) rs l ls e = absurd (false≢true e)

no_text_there : {A : Type 0} (v : Value) → (is_text v && false) ≡ true → A
no_text_there v e = absurd (false≢true (and_parts (is_text v) false e).1)

barred : (c : Call) (st : State) → runs_on c st ≡ true → TextBarred c st
barred (call_open n) st e = absurd (false≢true e)
barred (call_field k) st e = absurd (false≢true e)
barred (call_value v) idle e = no_text_there v e
barred (call_value v) (between l ls) e = no_text_there v e
barred (call_value v) (inside (element u n) rs l ls) e = no_text_there v e
barred (call_value v) (inside (content true) rs l ls) e = no_text_there v e
barred (call_value v) (inside (content false) rs l ls) e = barred_content v rs l ls (and_parts (is_text v) true e).0
barred (call_value v) (inside text_spot rs l ls) e = no_text_there v e
barred (call_value v) (inside simple rs l ls) e = no_text_there v e
barred (call_value v) (inside (words w) rs l ls) e = no_text_there v e
barred (call_value v) (quote (single k) l ls) e = no_text_there v e
barred (call_value v) (quote (several k s w) l ls) e = no_text_there v e
barred (call_value v) (complete ms) e = no_text_there v e
barred call_end st e = absurd (false≢true e)
barred call_finish st e = absurd (false≢true e)
barred call_abandon st e = absurd (false≢true e)

not_null : (s : Bytes) → s ≢ [] → not (null s) ≡ true
not_null [] h = absurd (h refl)
not_null (b ∷ s) h = refl

barred_runs_on : {c : Call} {st : State} → TextBarred c st → runs_on c st ≡ true
barred_runs_on (a_string {s = s} h) = and_from (not (null s)) true (not_null s h) refl
barred_runs_on (text_wrapped {v} e) = and_from (is_text_name v) true e refl
barred_runs_on (text_row {v} e) = and_from (is_text_name v) true e refl

barred_taken : (f : EmptyElementHandling) {c : Call} {st : State} → TextBarred c st → (next : State) × (step f c st ≡ Some next)
barred_taken f (a_string h) = (_, refl)
barred_taken f (text_wrapped e) = (_, refl)
barred_taken f (text_row e) = (_, refl)

-- a fault of a name
module _ {c : Call} {st : State} where
  at_fault : {n : Bytes} {k : ℕ} → Names c st 0 n → name_fault n ≡ Some k → Faulty c st k
  at_fault {n} {k} m e = record { before = 0; name = n; offset = k; meant = m; fault = e; counted = omega arith }

  no_fault : {k : ℕ} → ◌≡◌ {A = Option ℕ} None (Some k) → Faulty c st k
  no_fault e = let z : ◌≡◌ {A = ℕ} 0 1 = cc in absurd (omega (arith, z))

  -- a name that may be the name for text
  unless_text : {n : Bytes} {k : ℕ} (t : Bool) → (t ≡ false → Names c st 0 n) → cond t None (name_fault n) ≡ Some k → Faulty c st k
  unless_text true m e = no_fault e
  unless_text false m e = at_fault (m refl) e

content_faulty : {p : Bool} {rs : List Row} {l : Level} {ls : List Outer} {k : ℕ} (v : Value) → content_fault v ≡ Some k → Faulty (call_value v) (inside (content p) rs l ls) k
content_faulty (val_text r s) e = no_fault e
content_faulty val_none e = no_fault e
content_faulty (val_variant r v) e = unless_text (is_text_name v) variant e
content_faulty (val_wrapped v) e = unless_text (is_text_name v) wrapped e
content_faulty val_row e = no_fault e
content_faulty (val_variant_row v) e = unless_text (is_text_name v) variant_row e
content_faulty (val_record n) e = at_fault a_record e
content_faulty (val_variant_record n) e = at_fault variant_record e

attribute_faulty : {k n : Bytes} {st : State} {at : ℕ} → key k ≡ key_attribute n → (o : Option ℕ) → name_fault n ≡ o → behind 1 o ≡ Some at → Faulty (call_field k) st at
attribute_faulty h None q e = no_fault e
attribute_faulty {n = n} {at = at} h (Some j) q e =
    let p : 1 + j ≡ at = cc in
    record { before = 1; name = n; offset = j; meant = attribute h; fault = q; counted = sym p }

key_faulty : {k : Bytes} {st : State} {at : ℕ} (q : Key) → key k ≡ q → key_fault q ≡ Some at → Faulty (call_field k) st at
key_faulty (key_attribute n) h e = attribute_faulty h (name_fault n) refl e
key_faulty key_text h e = no_fault e
key_faulty key_value h e = no_fault e
key_faulty (key_element n) h e = at_fault (child h) e

faulty : (c : Call) (st : State) (at : ℕ) → misnamed c st ≡ Some at → Faulty c st at
faulty (call_open n) st at e = at_fault root e
faulty (call_field k) st at e = key_faulty (key k) refl e
faulty (call_value v) idle at e = no_fault e
faulty (call_value v) (between l ls) at e = no_fault e
faulty (call_value v) (inside (element u n) rs l ls) at e = no_fault e
faulty (call_value v) (inside (content p) rs l ls) at e = content_faulty v e
faulty (call_value v) (inside text_spot rs l ls) at e = no_fault e
faulty (call_value v) (inside simple rs l ls) at e = no_fault e
faulty (call_value v) (inside (words w) rs l ls) at e = no_fault e
faulty (call_value v) (quote (single k) l ls) at e = no_fault e
faulty (call_value v) (quote (several k s w) l ls) at e = no_fault e
faulty (call_value v) (complete ms) at e = no_fault e
faulty call_end st at e = no_fault e
faulty call_finish st at e = no_fault e
faulty call_abandon st at e = no_fault e

nought : (k : ℕ) → k ≡ 0 + k
nought k = omega arith

named_fault : {c : Call} {st : State} {b : ℕ} {n : Bytes} {k : ℕ} → Names c st b n → name_fault n ≡ Some k → misnamed c st ≡ Some (b + k)
named_fault {k = k} root e = e ∙ ap Some (nought k)
named_fault (attribute h) e = ap key_fault h ∙ ap (behind 1) e
named_fault {k = k} (child h) e = ap key_fault h ∙ (e ∙ ap Some (nought k))
named_fault {n = n} {k} (variant h) e = ap (λ t. cond t None (name_fault n)) h ∙ (e ∙ ap Some (nought k))
named_fault {n = n} {k} (wrapped h) e = ap (λ t. cond t None (name_fault n)) h ∙ (e ∙ ap Some (nought k))
named_fault {n = n} {k} (variant_row h) e = ap (λ t. cond t None (name_fault n)) h ∙ (e ∙ ap Some (nought k))
named_fault {k = k} a_record e = e ∙ ap Some (nought k)
named_fault {k = k} variant_record e = e ∙ ap Some (nought k)

none_some : {n : State} → ◌≡◌ {A = Option State} None (Some n) → ⊥
none_some h = let z : ◌≡◌ {A = ℕ} 0 1 = cc in absurd (omega (arith, z))

-- a step is in order, and fits but for one call
module _ (w : Setting) (room : ℕ) (c : Call) (st : State) where
  step_in_order : (next : State) → step w.form c st ≡ Some next → (b : Bool) → out_of_order c st ≡ b → b ≡ false
  step_in_order next e true h = absurd (none_some (sym (stray_stays w.form c st h) ∙ e))
  step_in_order next e false h = refl

  step_fits : (next : State) → step w.form c st ≡ Some next → (TextRecord c st → ⊥) → (b : Bool) → misshapen c st ≡ b → b ≡ false
  step_fits next e x true h = go (misfit_stays w.form c st h)
    where
      go : (step w.form c st ≡ None) ⊎ TextRecord c st → true ≡ false
      go (inl n) = absurd (none_some (sym n ∙ e))
      go (inr t) = absurd (x t)
  step_fits next e x false h = refl

  abbrev rows : Bool → Bool → List (Option Refusal)
  rows a b =
      when a Order ∷ when (ill_formed c) (BytesAt (whole (string_of c))) ∷ when b Shape ∷ when (runs_on c st) RunOn ∷ fault_at (misnamed c st) ∷ when (stack_full w c st) Stack ∷ when (too_deep w c st) Depth ∷ when (stage_full w c st) Stage ∷ when (sink_full w room c st) Sink ∷ []

  seven_rows : (next : State) → step w.form c st ≡ Some next → (TextRecord c st → ⊥) → table w room c st ≡ rows false false
  seven_rows next e x =
      ap (λ a. rows a (misshapen c st)) (step_in_order next e (out_of_order c st) refl) ∙ ap (rows false) (step_fits next e x (misshapen c st) refl)

  there : out_of_order c st ≡ false → misshapen c st ≡ false → (next : State) × (step w.form c st ≡ Some next)
  there o m = (or_stay st (step w.form c st), landed (step w.form c st) st (moves w.form c st (not-false (allowed c st) o) m))

pub rows_and_steps : RowsAndSteps
rows_and_steps w room c st =
    record { order = (allowed_order w.form c st, order_allowed); no_step_there = stray_stays w.form c st; no_step_so = misfit_stays w.form c st; text_record_barred = text_record_misfit; text_record_taken = text_record_steps w.form; taken = there w room c st; run_on = (barred c st, barred_runs_on); text_taken = barred_taken w.form; name = λ at. (faulty c st at, λ h. named_fault h.meant h.fault ∙ ap Some (sym h.counted)); other_grounds = seven_rows w room c st }
