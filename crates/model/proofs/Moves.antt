-- Where the table has no objection, the places say what a call does.
use Rattle.std.proofs.Common.{◌≡◌, ℕ, Bool, true, false, List, [], ◌∷◌, Some, None, Option, refl}
use Rattle.std.proofs.lemmas.Bool.{true≢false, false≢true}
use Rattle.style.specs.declared.style.EmptyElementHandling.{EmptyElementHandling}
use Rattle.reader.specs.Trees.{Bytes}
use Rattle.model.specs.Calls.{Value, val_text, val_none, val_variant, val_wrapped, val_row, val_variant_row, val_record, val_variant_record, Call, call_open, call_field, call_value, call_end, call_finish, call_abandon}
use Rattle.model.specs.Model.{Body, Level, Row, named_row, content_row, Outer, Spot, element, content, text_spot, simple, words, Quote, single, several, State, idle, between, inside, quote, complete, spot_place, quote_place}
use Rattle.model.specs.Step.{Move, Quoted, put_element, put_content, put_text, put_simple, put_word, put, put_single, put_several, put_quote, moved_if, requoted_if, leave, leave_quote, step}
use Rattle.model.specs.Grounds.{allowed, misshapen, no_element, no_text, no_item, misfit}
use Rattle.model.specs.Table.{or_stay}

-- P of what is there, if anything is
abbrev pub Whenever : {A : Type 0} → (A → Type 0) → Option A → Type 0
Whenever P None = Unit {0}
Whenever P (Some a) = P a

-- there is something
abbrev pub There : {A : Type 0} → Option A → Type 0
There None = ⊥
There (Some a) = Unit {0}

module _ (f : EmptyElementHandling) (d : ℕ) (rs : List Row) (b : Body) where
  element_there : (u n : Bytes) (v : Value) → no_element v ≡ false → There (put_element f d rs b u n v)
  element_there u n (val_text r s) e = tt
  element_there u n val_none e = tt
  element_there u n (val_variant r v) e = tt
  element_there u n (val_wrapped v) e = absurd (true≢false e)
  element_there u n val_row e = tt
  element_there u n (val_variant_row v) e = absurd (true≢false e)
  element_there u n (val_record m) e = tt
  element_there u n (val_variant_record v) e = absurd (true≢false e)

  content_there : (t : Bytes) (v : Value) → There (put_content f d rs b t v)
  content_there t (val_text r s) = tt
  content_there t val_none = tt
  content_there t (val_variant r v) = tt
  content_there t (val_wrapped v) = tt
  content_there t val_row = tt
  content_there t (val_variant_row v) = tt
  content_there t (val_record n) = tt
  content_there t (val_variant_record v) = tt

module _ (b : Body) where
  text_there : (v : Value) → no_text v ≡ false → There (put_text b v)
  text_there (val_text r s) e = tt
  text_there val_none e = tt
  text_there (val_variant r v) e = tt
  text_there (val_wrapped v) e = absurd (true≢false e)
  text_there val_row e = tt
  text_there (val_variant_row v) e = absurd (true≢false e)
  text_there (val_record m) e = absurd (true≢false e)
  text_there (val_variant_record v) e = absurd (true≢false e)

  simple_there : (v : Value) → no_text v ≡ false → There (put_simple b v)
  simple_there (val_text r s) e = tt
  simple_there val_none e = tt
  simple_there (val_variant r v) e = tt
  simple_there (val_wrapped v) e = absurd (true≢false e)
  simple_there val_row e = tt
  simple_there (val_variant_row v) e = absurd (true≢false e)
  simple_there (val_record m) e = absurd (true≢false e)
  simple_there (val_variant_record v) e = absurd (true≢false e)

  word_there : (w : Bool) (v : Value) → no_item v ≡ false → There (put_word w b v)
  word_there w (val_text r s) e = tt
  word_there w val_none e = absurd (true≢false e)
  word_there w (val_variant r v) e = tt
  word_there w (val_wrapped v) e = absurd (true≢false e)
  word_there w val_row e = absurd (true≢false e)
  word_there w (val_variant_row v) e = absurd (true≢false e)
  word_there w (val_record m) e = absurd (true≢false e)
  word_there w (val_variant_record v) e = absurd (true≢false e)

single_there : (k : Bytes) (v : Value) → no_text v ≡ false → There (put_single k v)
single_there k (val_text r s) e = tt
single_there k val_none e = tt
single_there k (val_variant r v) e = tt
single_there k (val_wrapped v) e = absurd (true≢false e)
single_there k val_row e = tt
single_there k (val_variant_row v) e = absurd (true≢false e)
single_there k (val_record m) e = absurd (true≢false e)
single_there k (val_variant_record v) e = absurd (true≢false e)

several_there : (k s : Bytes) (w : Bool) (v : Value) → no_item v ≡ false → There (put_several k s w v)
several_there k s w (val_text r t) e = tt
several_there k s w val_none e = absurd (true≢false e)
several_there k s w (val_variant r v) e = tt
several_there k s w (val_wrapped v) e = absurd (true≢false e)
several_there k s w val_row e = absurd (true≢false e)
several_there k s w (val_variant_row v) e = absurd (true≢false e)
several_there k s w (val_record m) e = absurd (true≢false e)
several_there k s w (val_variant_record v) e = absurd (true≢false e)

put_there : (f : EmptyElementHandling) (d : ℕ) (rs : List Row) (t : Bytes) (b : Body) (s : Spot) (v : Value) → misfit v (spot_place s) ≡ false → There (put f d rs t b s v)
put_there f d rs t b (element u n) v e = element_there f d rs b u n v e
put_there f d rs t b (content p) v e = content_there f d rs b t v
put_there f d rs t b text_spot v e = text_there b v e
put_there f d rs t b simple v e = simple_there b v e
put_there f d rs t b (words w) v e = word_there b w v e

quote_there : (q : Quote) (v : Value) → misfit v (quote_place q) ≡ false → There (put_quote q v)
quote_there (single k) v e = single_there k v e
quote_there (several k s w) v e = several_there k s w v e

moved_there : (rs : List Row) (l : Level) (ls : List Outer) (o : Option Move) → There o → There (moved_if rs l ls o)
moved_there rs l ls None h = h
moved_there rs l ls (Some m) h = tt

requoted_there : (l : Level) (ls : List Outer) (o : Option Quoted) → There o → There (requoted_if l ls o)
requoted_there l ls None h = h
requoted_there l ls (Some m) h = tt

leave_there : (s : Spot) (rs : List Row) (l : Level) (ls : List Outer) → allowed call_end (inside s rs l ls) ≡ true → There (leave s rs l ls)
leave_there (element u n) [] l ls e = absurd (false≢true e)
leave_there (element u n) (named_row t m g ∷ rs) l ls e = tt
leave_there (element u n) (content_row t r g ∷ rs) l ls e = absurd (false≢true e)
leave_there (content p) [] l ls e = absurd (false≢true e)
leave_there (content p) (named_row t m g ∷ rs) l ls e = absurd (false≢true e)
leave_there (content p) (content_row t r g ∷ rs) l ls e = tt
leave_there text_spot rs l ls e = absurd (false≢true e)
leave_there simple rs l ls e = absurd (false≢true e)
leave_there (words w) rs l ls e = tt

leave_quote_there : (q : Quote) (l : Level) (ls : List Outer) → allowed call_end (quote q l ls) ≡ true → There (leave_quote q l ls)
leave_quote_there (single k) l ls e = absurd (false≢true e)
leave_quote_there (several k v w) l ls e = tt

pub moves : (f : EmptyElementHandling) (c : Call) (st : State) → allowed c st ≡ true → misshapen c st ≡ false → There (step f c st)
moves f (call_open n) idle e m = tt
moves f (call_open n) (between l ls) e m = absurd (false≢true e)
moves f (call_open n) (inside (element u k) rs l ls) e m = absurd (false≢true e)
moves f (call_open n) (inside (content p) rs l ls) e m = absurd (false≢true e)
moves f (call_open n) (inside text_spot rs l ls) e m = absurd (false≢true e)
moves f (call_open n) (inside simple rs l ls) e m = absurd (false≢true e)
moves f (call_open n) (inside (words w) rs l ls) e m = absurd (false≢true e)
moves f (call_open n) (quote (single k) l ls) e m = absurd (false≢true e)
moves f (call_open n) (quote (several k v w) l ls) e m = absurd (false≢true e)
moves f (call_open n) (complete ms) e m = absurd (false≢true e)
moves f (call_field k) idle e m = absurd (false≢true e)
moves f (call_field k) (between l ls) e m = tt
moves f (call_field k) (inside (element u n) rs l ls) e m = absurd (false≢true e)
moves f (call_field k) (inside (content p) rs l ls) e m = absurd (false≢true e)
moves f (call_field k) (inside text_spot rs l ls) e m = absurd (false≢true e)
moves f (call_field k) (inside simple rs l ls) e m = absurd (false≢true e)
moves f (call_field k) (inside (words w) rs l ls) e m = absurd (false≢true e)
moves f (call_field k) (quote (single n) l ls) e m = absurd (false≢true e)
moves f (call_field k) (quote (several n v w) l ls) e m = absurd (false≢true e)
moves f (call_field k) (complete ms) e m = absurd (false≢true e)
moves f (call_value v) idle e m = absurd (false≢true e)
moves f (call_value v) (between l ls) e m = absurd (false≢true e)
moves f (call_value v) (inside s rs l ls) e m = moved_there rs l ls _ (put_there f _ rs _ l.body s v m)
moves f (call_value v) (quote q l ls) e m = requoted_there l ls (put_quote q v) (quote_there q v m)
moves f (call_value v) (complete ms) e m = absurd (false≢true e)
moves f call_end idle e m = absurd (false≢true e)
moves f call_end (between l ls) e m = tt
moves f call_end (inside s rs l ls) e m = leave_there s rs l ls e
moves f call_end (quote q l ls) e m = leave_quote_there q l ls e
moves f call_end (complete ms) e m = absurd (false≢true e)
moves f call_finish idle e m = absurd (false≢true e)
moves f call_finish (between l ls) e m = absurd (false≢true e)
moves f call_finish (inside (element u n) rs l ls) e m = absurd (false≢true e)
moves f call_finish (inside (content p) rs l ls) e m = absurd (false≢true e)
moves f call_finish (inside text_spot rs l ls) e m = absurd (false≢true e)
moves f call_finish (inside simple rs l ls) e m = absurd (false≢true e)
moves f call_finish (inside (words w) rs l ls) e m = absurd (false≢true e)
moves f call_finish (quote (single n) l ls) e m = absurd (false≢true e)
moves f call_finish (quote (several n v w) l ls) e m = absurd (false≢true e)
moves f call_finish (complete ms) e m = tt
moves f call_abandon idle e m = absurd (false≢true e)
moves f call_abandon (between l ls) e m = tt
moves f call_abandon (inside s rs l ls) e m = tt
moves f call_abandon (quote q l ls) e m = tt
moves f call_abandon (complete ms) e m = tt

-- what is there is where one gets to
pub landed : (o : Option State) (st : State) → There o → o ≡ Some (or_stay st o)
landed None st h = absurd h
landed (Some m) st h = refl

pub land : (P : State → Type 0) (st : State) (o : Option State) → There o → Whenever P o → P (or_stay st o)
land P st None t h = absurd t
land P st (Some n) t h = h
