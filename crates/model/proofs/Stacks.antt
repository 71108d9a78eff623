-- The name stacks that a state remembers: a call adds at most one, that with the name it brings.
use Rattle.std.proofs.Common.{ℕ, suc, Bool, true, false, cond, List, [], ◌∷◌, ◌++◌, length, Some, None, Option}
use Rattle.style.specs.declared.result.WriteResult.{WriteResult}
use Rattle.style.specs.declared.result.WriteResult.TheVariants.{Element as element_result, SensitiveText}
use Rattle.style.specs.declared.style.EmptyElementHandling.{EmptyElementHandling}
use Rattle.reader.specs.Trees.{Bytes}
use Rattle.model.specs.Strings.{null}
use Rattle.std.specs.List.{AllByRecursion}
use Rattle.model.specs.Calls.{Value, val_text, val_none, val_variant, val_wrapped, val_row, val_variant_row, val_record, val_variant_record, Call, call_open, call_field, call_value, call_end, call_finish, call_abandon, Key, key_attribute, key_text, key_value, key_element, key, is_text_name}
use Rattle.model.specs.Model.{Level, Row, named_row, content_row, Outer, Spot, element, content, text_spot, simple, words, Quote, single, several, State, idle, between, inside, quote, complete, stack, flag, spot_place}
use Rattle.model.specs.Step.{Move, done, on, opens_row, opens_record, Quoted, closed, still, put, put_quote, settle, moved_if, requoted_if, close, leave, leave_quote, field, step, with_body}
use Rattle.model.specs.Layout.{names, spot_names}
use Rattle.model.specs.Table.{name_brought, value_name, key_name}
use Rattle.model.proofs.Moves.{Whenever}

module _ (P : Bytes → Type 0) where
  -- P holds of every name stack that is remembered
  abbrev pub InRow : Row → Type 0
  InRow (named_row u n g) = P (u ++ n)
  InRow (content_row t r g) = P t

  abbrev pub InLevel : Level → Type 0
  InLevel l = P (l.under ++ l.name)

  abbrev pub InOuter : Outer → Type 0
  InOuter o = InLevel o.level × AllByRecursion InRow o.rows

  abbrev pub InSpot : Spot → Type 0
  InSpot (element u n) = P (u ++ n)
  InSpot (content p) = Unit {0}
  InSpot text_spot = Unit {0}
  InSpot simple = Unit {0}
  InSpot (words w) = Unit {0}

  abbrev pub InState : State → Type 0
  InState idle = Unit {0}
  InState (between l ls) = InLevel l × AllByRecursion InOuter ls
  InState (inside s rs l ls) = InSpot s × AllByRecursion InRow rs × InLevel l × AllByRecursion InOuter ls
  InState (quote q l ls) = InLevel l × AllByRecursion InOuter ls
  InState (complete ms) = Unit {0}

  pub in_stack : (rs : List Row) (l : Level) → AllByRecursion InRow rs → InLevel l → P (stack rs l)
  in_stack [] l h k = k
  in_stack (named_row u n g ∷ rs) l h k = h.0
  in_stack (content_row t r g ∷ rs) l h k = h.0

  in_spot_names : (s : Spot) (rs : List Row) (l : Level) → InSpot s → AllByRecursion InRow rs → InLevel l → P (spot_names s rs l)
  in_spot_names (element u n) rs l p h k = p
  in_spot_names (content q) rs l p h k = in_stack rs l h k
  in_spot_names text_spot rs l p h k = in_stack rs l h k
  in_spot_names simple rs l p h k = in_stack rs l h k
  in_spot_names (words w) rs l p h k = in_stack rs l h k

  pub in_names : P [] → (st : State) → InState st → P (names st)
  in_names z idle h = z
  in_names z (between l ls) h = h.0
  in_names z (inside s rs l ls) h = in_spot_names s rs l h.0 h.1 h.2
  in_names z (quote q l ls) h = h.0
  in_names z (complete ms) h = z

  abbrev InMove : Move → Type 0
  InMove (done r b) = Unit {0}
  InMove (on z b) = InSpot z
  InMove (opens_row r) = InRow r
  InMove (opens_record u n) = P (u ++ n)

  either : (t : Bool) (m n : Move) → InMove m → InMove n → InMove (cond t m n)
  either true m n p q = p
  either false m n p q = q

  in_put : (f : EmptyElementHandling) (d : ℕ) (rs : List Row) (l : Level) (s : Spot) (v : Value) → InSpot s → P (stack rs l) → P (spot_names s rs l ++ value_name v (spot_place s)) → Whenever InMove (put f d rs (stack rs l) l.body s v)
  in_put f d rs l (element u n) (val_text r s) p h k = either (null s) _ _ tt tt
  in_put f d rs l (element u n) val_none p h k = tt
  in_put f d rs l (element u n) (val_variant r v) p h k = either (is_text_name v) _ _ tt tt
  in_put f d rs l (element u n) (val_wrapped v) p h k = tt
  in_put f d rs l (element u n) val_row p h k = p
  in_put f d rs l (element u n) (val_variant_row v) p h k = tt
  in_put f d rs l (element u n) (val_record m) p h k = p
  in_put f d rs l (element u n) (val_variant_record v) p h k = tt
  in_put f d rs l (content q) (val_text r s) p h k = tt
  in_put f d rs l (content q) val_none p h k = tt
  in_put f d rs l (content q) (val_variant r v) p h k = either (is_text_name v) _ _ tt tt
  in_put f d rs l (content q) (val_wrapped v) p h k = go (is_text_name v) k
    where
      go : (t : Bool) → P (stack rs l ++ cond t [] v) → InMove (cond t (on simple l.body) (on (element (stack rs l) v) l.body))
      go true k = tt
      go false k = k
  in_put f d rs l (content q) val_row p h k = h
  in_put f d rs l (content q) (val_variant_row v) p h k = go (is_text_name v) k
    where
      go : (t : Bool) → P (stack rs l ++ cond t [] v) → InMove (cond t (on (words false) l.body) (opens_row (named_row (stack rs l) v (flag rs l.body))))
      go true k = tt
      go false k = k
  in_put f d rs l (content q) (val_record m) p h k = k
  in_put f d rs l (content q) (val_variant_record v) p h k = k
  in_put f d rs l text_spot (val_text r s) p h k = tt
  in_put f d rs l text_spot val_none p h k = tt
  in_put f d rs l text_spot (val_variant r v) p h k = tt
  in_put f d rs l text_spot (val_wrapped v) p h k = tt
  in_put f d rs l text_spot val_row p h k = tt
  in_put f d rs l text_spot (val_variant_row v) p h k = tt
  in_put f d rs l text_spot (val_record m) p h k = tt
  in_put f d rs l text_spot (val_variant_record v) p h k = tt
  in_put f d rs l simple (val_text r s) p h k = tt
  in_put f d rs l simple val_none p h k = tt
  in_put f d rs l simple (val_variant r v) p h k = tt
  in_put f d rs l simple (val_wrapped v) p h k = tt
  in_put f d rs l simple val_row p h k = tt
  in_put f d rs l simple (val_variant_row v) p h k = tt
  in_put f d rs l simple (val_record m) p h k = tt
  in_put f d rs l simple (val_variant_record v) p h k = tt
  in_put f d rs l (words w) (val_text r s) p h k = either (null s) (on (words w) l.body) _ tt tt
  in_put f d rs l (words w) val_none p h k = tt
  in_put f d rs l (words w) (val_variant r v) p h k = either (null v) (on (words w) l.body) _ tt tt
  in_put f d rs l (words w) (val_wrapped v) p h k = tt
  in_put f d rs l (words w) val_row p h k = tt
  in_put f d rs l (words w) (val_variant_row v) p h k = tt
  in_put f d rs l (words w) (val_record m) p h k = tt
  in_put f d rs l (words w) (val_variant_record v) p h k = tt

  in_settle : (r : WriteResult) (rs : List Row) (l : Level) (ls : List Outer) → AllByRecursion InRow rs → InLevel l → AllByRecursion InOuter ls → InState (settle r rs l ls)
  in_settle r [] l ls h k o = (k, o)
  in_settle r (named_row u n g ∷ rs) l ls h k o = (h.0, h, k, o)
  in_settle r (content_row t q g ∷ rs) l ls h k o = (tt, h, k, o)

  in_moved : (rs : List Row) (l : Level) (ls : List Outer) → AllByRecursion InRow rs → InLevel l → AllByRecursion InOuter ls → (o : Option Move) → Whenever InMove o → Whenever InState (moved_if rs l ls o)
  in_moved rs l ls h k o None m = tt
  in_moved rs l ls h k o (Some (done r b)) m = in_settle r rs (with_body l b) ls h k o
  in_moved rs l ls h k o (Some (on z b)) m = (m, h, k, o)
  in_moved rs l ls h k o (Some (opens_row (named_row u n g))) m = (m, (m, h), k, o)
  in_moved rs l ls h k o (Some (opens_row (content_row t q g))) m = (tt, (m, h), k, o)
  in_moved rs l ls h k o (Some (opens_record u n)) m = (m, ((k, h), o))

  in_requoted : (l : Level) (ls : List Outer) → InLevel l → AllByRecursion InOuter ls → (o : Option Quoted) → Whenever InState (requoted_if l ls o)
  in_requoted l ls k o None = tt
  in_requoted l ls k o (Some (closed a)) = (k, o)
  in_requoted l ls k o (Some (still q)) = (k, o)

  in_close : (f : EmptyElementHandling) (l : Level) (ls : List Outer) → AllByRecursion InOuter ls → InState (close f l ls)
  in_close f l [] o = tt
  in_close f l (p ∷ ls) o = in_settle element_result p.rows _ ls o.0.1 o.0.0 o.1

  in_leave : (s : Spot) (rs : List Row) (l : Level) (ls : List Outer) → AllByRecursion InRow rs → InLevel l → AllByRecursion InOuter ls → Whenever InState (leave s rs l ls)
  in_leave (element u n) [] l ls h k o = tt
  in_leave (element u n) (named_row t m g ∷ rs) l ls h k o = in_settle element_result rs l ls h.1 k o
  in_leave (element u n) (content_row t r g ∷ rs) l ls h k o = tt
  in_leave (content p) [] l ls h k o = tt
  in_leave (content p) (named_row t m g ∷ rs) l ls h k o = tt
  in_leave (content p) (content_row t r g ∷ rs) l ls h k o = in_settle r rs l ls h.1 k o
  in_leave text_spot rs l ls h k o = tt
  in_leave simple rs l ls h k o = tt
  in_leave (words w) rs l ls h k o = in_settle SensitiveText rs l ls h k o

  in_field : (q : Key) (l : Level) (ls : List Outer) → InLevel l → AllByRecursion InOuter ls → P (stack [] l ++ key_name q) → InState (field q l ls)
  in_field (key_attribute k) l ls h o p = (h, o)
  in_field key_text l ls h o p = (tt, tt, h, o)
  in_field key_value l ls h o p = (tt, tt, h, o)
  in_field (key_element n) l ls h o p = (p, tt, h, o)

  in_leave_quote : (q : Quote) (l : Level) (ls : List Outer) → InLevel l → AllByRecursion InOuter ls → Whenever InState (leave_quote q l ls)
  in_leave_quote (single k) l ls h o = tt
  in_leave_quote (several k v w) l ls h o = (h, o)

  pub in_step : (f : EmptyElementHandling) (c : Call) (st : State) → InState st → P (names st ++ name_brought c st) → Whenever InState (step f c st)
  in_step f (call_open n) idle h p = (p, tt)
  in_step f (call_open n) (between l ls) h p = tt
  in_step f (call_open n) (inside s rs l ls) h p = tt
  in_step f (call_open n) (quote q l ls) h p = tt
  in_step f (call_open n) (complete ms) h p = tt
  in_step f (call_field k) idle h p = tt
  in_step f (call_field k) (between l ls) h p = in_field (key k) l ls h.0 h.1 p
  in_step f (call_field k) (inside s rs l ls) h p = tt
  in_step f (call_field k) (quote q l ls) h p = tt
  in_step f (call_field k) (complete ms) h p = tt
  in_step f (call_value v) idle h p = tt
  in_step f (call_value v) (between l ls) h p = tt
  in_step f (call_value v) (inside s rs l ls) h p =
      in_moved rs l ls h.1 h.2 h.3 (put f (suc (length ls)) rs (stack rs l) l.body s v) (in_put f (suc (length ls)) rs l s v h.0 (in_stack rs l h.1 h.2) p)
  in_step f (call_value v) (quote q l ls) h p = in_requoted l ls h.0 h.1 (put_quote q v)
  in_step f (call_value v) (complete ms) h p = tt
  in_step f call_end idle h p = tt
  in_step f call_end (between l ls) h p = in_close f l ls h.1
  in_step f call_end (inside s rs l ls) h p = in_leave s rs l ls h.1 h.2 h.3
  in_step f call_end (quote q l ls) h p = in_leave_quote q l ls h.0 h.1
  in_step f call_end (complete ms) h p = tt
  in_step f call_finish idle h p = tt
  in_step f call_finish (between l ls) h p = tt
  in_step f call_finish (inside s rs l ls) h p = tt
  in_step f call_finish (quote q l ls) h p = tt
  in_step f call_finish (complete ms) h p = tt
  in_step f call_abandon idle h p = tt
  in_step f call_abandon (between l ls) h p = tt
  in_step f call_abandon (inside s rs l ls) h p = tt
  in_step f call_abandon (quote q l ls) h p = tt
  in_step f call_abandon (complete ms) h p = tt
