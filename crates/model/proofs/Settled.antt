-- Every accepted call puts indents straight behind tags alone, so every record in a sink has them there.
use Rattle.std.proofs.Common.{◌≡◌, ℕ, suc, Bool, true, false, cond, List, [], ◌∷◌, ◌++◌, length, Some, None, codes, Option, refl, subst, append_assoc}
use Rattle.style.specs.declared.result.WriteResult.{WriteResult}
use Rattle.style.specs.declared.result.WriteResult.TheVariants.{Element as element_result, SensitiveText}
use Rattle.style.specs.declared.style.EmptyElementHandling.{EmptyElementHandling}
use Rattle.xml.specs.declared.escape.Use.TheVariants.{Text as text_use, TextItem as text_item_use}
use Rattle.xml.specs.Escaping.{escaped}
use Rattle.reader.specs.Trees.{Bytes}
use Rattle.model.specs.Strings.{null}
use Rattle.model.specs.Calls.{Value, val_text, val_none, val_variant, val_wrapped, val_row, val_variant_row, val_record, val_variant_record, Call, call_open, call_field, call_value, call_end, call_finish, call_abandon, Key, key_attribute, key_text, key_value, key_element, key, is_text_name}
use Rattle.model.specs.Marks.{Mark, tag_byte, tagged, shut}
use Rattle.model.specs.Model.{Body, Level, Row, named_row, content_row, Outer, Spot, element, content, text_spot, simple, words, Quote, single, several, State, idle, between, inside, quote, complete, stack, flag}
use Rattle.model.specs.Step.{Move, done, on, opens_row, opens_record, Quoted, closed, still, gap, item, empty_child, text_child, put_element, put_content, put_text, put_simple, put_word, put, put_quote, settle, moved, moved_if, row_state, requoted_if, no_kids, end_tag, close, leave, leave_quote, field, step, with_body}
use Rattle.model.specs.Table.{or_stay, next}
use Rattle.model.specs.Run.{new, answers}
use Rattle.model.specs.Documents.{accepted_calls, document, documents}
use Rattle.std.specs.List.{AllByRecursion}
use Rattle.model.specs.Laws.{Settled, NoIndentAfterText}
use Rattle.model.proofs.Moves.{Whenever}
use Rattle.model.proofs.Documents.{sink_layout}
use Rattle.model.proofs.Indents.{led, Rest, rest_tagged, rest_after_tagged, rest_empty, rest_text, Good, led_tag, shuts_tag, good_tag, good_text, led_behind, led_no_text}

abbrev Goods : List Outer → Type 0
Goods [] = Unit {0}
Goods (o ∷ os) = Good o.level.body × Goods os

-- a complete record begins with a plain `<`, and its indents stand behind tags
record Whole (ms : List Mark) : Type 0 where
  led : led false ms ≡ true
  root : (rest : List Mark) × (ms ≡ tag_byte 60 ∷ rest)

abbrev GoodState : State → Type 0
GoodState idle = Unit {0}
GoodState (between l ls) = Good l.body × Goods ls
GoodState (inside s rs l ls) = Good l.body × Goods ls
GoodState (quote q l ls) = Good l.body × Goods ls
GoodState (complete ms) = Whole ms

abbrev GoodMove : Move → Type 0
GoodMove (done r b) = Good b
GoodMove (on s b) = Good b
GoodMove (opens_row r) = Unit {0}
GoodMove (opens_record u n) = Unit {0}

-- a test in a definition, where both ways are good
either : (t : Bool) (m n : Move) → GoodMove m → GoodMove n → GoodMove (cond t m n)
either true m n p q = p
either false m n p q = q

module _ (f : EmptyElementHandling) (d : ℕ) (rs : List Row) (b : Body) (g : Good b) where
  good_empty : (n : Bytes) → GoodMove (empty_child f d rs b n)
  good_empty n = good_tag (flag rs b) d g (rest_empty f n n)

  good_around : (n s : Bytes) → GoodMove (text_child f d rs b n s)
  good_around n s = good_tag (flag rs b) d g (rest_text n s)

  good_element : (u n : Bytes) (v : Value) → Whenever GoodMove (put_element f d rs b u n v)
  good_element u n (val_text r s) = either (null s) _ _ (good_empty n) (good_around n (escaped (r.chooses text_use) s))
  good_element u n val_none = good_empty n
  good_element u n (val_variant r v) = either (is_text_name v) _ _ (good_empty n) (good_around n (escaped (r.chooses text_use) v))
  good_element u n (val_wrapped v) = tt
  good_element u n val_row = tt
  good_element u n (val_variant_row v) = tt
  good_element u n (val_record m) = tt
  good_element u n (val_variant_record v) = tt

  good_content : (t : Bytes) (v : Value) → Whenever GoodMove (put_content f d rs b t v)
  good_content t (val_text r s) = good_text (escaped (r.chooses text_use) s) g
  good_content t val_none = g
  good_content t (val_variant r v) = either (is_text_name v) _ _ g (good_empty v)
  good_content t (val_wrapped v) = either (is_text_name v) (on simple b) (on (element t v) b) g g
  good_content t val_row = tt
  good_content t (val_variant_row v) = either (is_text_name v) _ _ g tt
  good_content t (val_record n) = tt
  good_content t (val_variant_record v) = tt

  good_string : (v : Value) → Whenever GoodMove (put_text b v)
  good_string (val_text r s) = good_text (escaped (r.chooses text_use) s) g
  good_string val_none = g
  good_string (val_variant r v) = good_text (cond (is_text_name v) [] (escaped (r.chooses text_use) v)) g
  good_string (val_wrapped v) = tt
  good_string val_row = g
  good_string (val_variant_row v) = tt
  good_string (val_record n) = tt
  good_string (val_variant_record v) = tt

  good_simple : (v : Value) → Whenever GoodMove (put_simple b v)
  good_simple (val_text r s) = good_text (escaped (r.chooses text_use) s) g
  good_simple val_none = g
  good_simple (val_variant r v) = good_text (escaped (r.chooses text_use) v) g
  good_simple (val_wrapped v) = tt
  good_simple val_row = g
  good_simple (val_variant_row v) = tt
  good_simple (val_record n) = tt
  good_simple (val_variant_record v) = tt

  good_item : (w : Bool) (chosen : ℕ → Bool) (s : Bytes) → GoodMove (item w b chosen s)
  good_item w chosen s = either (null s) (on (words w) b) _ g (good_text (gap w ++ escaped chosen s) g)

  good_word : (w : Bool) (v : Value) → Whenever GoodMove (put_word w b v)
  good_word w (val_text r s) = good_item w (r.chooses text_item_use) s
  good_word w val_none = tt
  good_word w (val_variant r v) = good_item w (r.chooses text_item_use) v
  good_word w (val_wrapped v) = tt
  good_word w val_row = tt
  good_word w (val_variant_row v) = tt
  good_word w (val_record n) = tt
  good_word w (val_variant_record v) = tt

  good_put : (t : Bytes) (s : Spot) (v : Value) → Whenever GoodMove (put f d rs t b s v)
  good_put t (element u n) v = good_element u n v
  good_put t (content p) v = good_content t v
  good_put t text_spot v = good_string v
  good_put t simple v = good_simple v
  good_put t (words w) v = good_word w v

-- a flag is no byte
good_settle : (r : WriteResult) (rs : List Row) (l : Level) (ls : List Outer) → Good l.body → Goods ls → GoodState (settle r rs l ls)
good_settle r [] l ls g os = (record { led = g.led; last = g.last }, os)
good_settle r (named_row u n h ∷ rs) l ls g os = (g, os)
good_settle r (content_row t q h ∷ rs) l ls g os = (g, os)

good_row : (r : Row) (rs : List Row) (l : Level) (ls : List Outer) → Good l.body → Goods ls → GoodState (row_state r rs l ls)
good_row (named_row u n h) rs l ls g os = (g, os)
good_row (content_row t q h) rs l ls g os = (g, os)

good_moved : (rs : List Row) (l : Level) (ls : List Outer) → Good l.body → Goods ls → (m : Move) → GoodMove m → GoodState (moved rs l ls m)
good_moved rs l ls g os (done r b) h = good_settle r rs (with_body l b) ls h os
good_moved rs l ls g os (on s b) h = (h, os)
good_moved rs l ls g os (opens_row r) h = good_row r rs l ls g os
good_moved rs l ls g os (opens_record u n) h = (record { led = refl; last = λ e. refl }, (g, os))

good_moved_if : (rs : List Row) (l : Level) (ls : List Outer) → Good l.body → Goods ls → (o : Option Move) → Whenever GoodMove o → Whenever GoodState (moved_if rs l ls o)
good_moved_if rs l ls g os None h = tt
good_moved_if rs l ls g os (Some m) h = good_moved rs l ls g os m h

good_requoted : (l : Level) (ls : List Outer) → Good l.body → Goods ls → (o : Option Quoted) → Whenever GoodState (requoted_if l ls o)
good_requoted l ls g os None = tt
good_requoted l ls g os (Some (closed a)) = (g, os)
good_requoted l ls g os (Some (still q)) = (g, os)

-- what stands behind the `<` of a closed record
rest_record : (f : EmptyElementHandling) (d : ℕ) (l : Level) → Good l.body → (t : Bool) →
    Rest (cond t (tagged (l.name ++ (l.attrs ++ shut f l.name))) (tagged (l.name ++ (l.attrs ++ codes ">")) ++ (l.body.kids ++ end_tag d l)))
rest_record f d l g true = subst (λ (x : Bytes). Rest (tagged x)) (append_assoc l.name l.attrs (shut f l.name)) (rest_empty f (l.name ++ l.attrs) l.name)
rest_record f d l g false =
    let e = rest_tagged (codes "/" ++ l.name) in
    subst (λ (x : Bytes). Rest (tagged x ++ (l.body.kids ++ end_tag d l))) (append_assoc l.name l.attrs (codes ">")) (rest_after_tagged (l.name ++ l.attrs) (l.body.kids ++ end_tag d l) (led_tag l.body.flag d g e) (shuts_tag l.body l.body.flag d e))

good_close : (f : EmptyElementHandling) (l : Level) (ls : List Outer) → Good l.body → Goods ls → GoodState (close f l ls)
good_close f l [] g os = record { led = (rest_record f 0 l g (no_kids l.body.kids)).led false; root = (_, refl) }
good_close f l (o ∷ ls) g os =
    good_settle element_result o.rows _ ls (good_tag (flag o.rows o.level.body) (length (o ∷ ls)) os.0 (rest_record f (length (o ∷ ls)) l g (no_kids l.body.kids))) os.1

good_leave : (s : Spot) (rs : List Row) (l : Level) (ls : List Outer) → Good l.body → Goods ls → Whenever GoodState (leave s rs l ls)
good_leave (element u n) [] l ls g os = tt
good_leave (element u n) (named_row t m h ∷ rs) l ls g os = good_settle element_result rs l ls g os
good_leave (element u n) (content_row t r h ∷ rs) l ls g os = tt
good_leave (content p) [] l ls g os = tt
good_leave (content p) (named_row t m h ∷ rs) l ls g os = tt
good_leave (content p) (content_row t r h ∷ rs) l ls g os = good_settle r rs l ls g os
good_leave text_spot rs l ls g os = tt
good_leave simple rs l ls g os = tt
good_leave (words w) rs l ls g os = good_settle SensitiveText rs l ls g os

good_leave_quote : (q : Quote) (l : Level) (ls : List Outer) → Good l.body → Goods ls → Whenever GoodState (leave_quote q l ls)
good_leave_quote (single k) l ls g os = tt
good_leave_quote (several k v w) l ls g os = (g, os)

good_field : (k : Key) (l : Level) (ls : List Outer) → Good l.body → Goods ls → GoodState (field k l ls)
good_field (key_attribute k) l ls g os = (g, os)
good_field key_text l ls g os = (g, os)
good_field key_value l ls g os = (g, os)
good_field (key_element n) l ls g os = (g, os)

good_step : (f : EmptyElementHandling) (c : Call) (st : State) → GoodState st → Whenever GoodState (step f c st)
good_step f (call_open n) idle h = (record { led = refl; last = λ e. refl }, tt)
good_step f (call_open n) (between l ls) h = tt
good_step f (call_open n) (inside s rs l ls) h = tt
good_step f (call_open n) (quote q l ls) h = tt
good_step f (call_open n) (complete ms) h = tt
good_step f (call_field k) idle h = tt
good_step f (call_field k) (between l ls) h = good_field (key k) l ls h.0 h.1
good_step f (call_field k) (inside s rs l ls) h = tt
good_step f (call_field k) (quote q l ls) h = tt
good_step f (call_field k) (complete ms) h = tt
good_step f (call_value v) idle h = tt
good_step f (call_value v) (between l ls) h = tt
good_step f (call_value v) (inside s rs l ls) h = good_moved_if rs l ls h.0 h.1 (put f (suc (length ls)) rs (stack rs l) l.body s v) (good_put f (suc (length ls)) rs l.body h.0 (stack rs l) s v)
good_step f (call_value v) (quote q l ls) h = good_requoted l ls h.0 h.1 (put_quote q v)
good_step f (call_value v) (complete ms) h = tt
good_step f call_end idle h = tt
good_step f call_end (between l ls) h = good_close f l ls h.0 h.1
good_step f call_end (inside s rs l ls) h = good_leave s rs l ls h.0 h.1
good_step f call_end (quote q l ls) h = good_leave_quote q l ls h.0 h.1
good_step f call_end (complete ms) h = tt
good_step f call_finish idle h = tt
good_step f call_finish (between l ls) h = tt
good_step f call_finish (inside s rs l ls) h = tt
good_step f call_finish (quote q l ls) h = tt
good_step f call_finish (complete ms) h = tt
good_step f call_abandon idle h = tt
good_step f call_abandon (between l ls) h = tt
good_step f call_abandon (inside s rs l ls) h = tt
good_step f call_abandon (quote q l ls) h = tt
good_step f call_abandon (complete ms) h = tt

stays_good : (o : Option State) (st : State) → GoodState st → Whenever GoodState o → GoodState (or_stay st o)
stays_good None st g h = g
stays_good (Some n) st g h = h

settled : {ms : List Mark} → Whole ms → Settled ms
settled {ms} w = record { root = w.root; behind_a_tag = led_behind ms w.led; behind_no_text = led_no_text ms w.led }

-- only a finish at a complete record gives a document
with_document : (c : Call) (st : State) (ds : List (List Mark)) → GoodState st → AllByRecursion Settled ds → AllByRecursion Settled (document c st ++ ds)
with_document (call_open n) st ds g h = h
with_document (call_field k) st ds g h = h
with_document (call_value v) st ds g h = h
with_document call_end st ds g h = h
with_document call_finish idle ds g h = h
with_document call_finish (between l ls) ds g h = h
with_document call_finish (inside s rs l ls) ds g h = h
with_document call_finish (quote q l ls) ds g h = h
with_document call_finish (complete ms) ds g h = (settled g, h)
with_document call_abandon st ds g h = h

all_settled : (f : EmptyElementHandling) (cs : List Call) (st : State) → GoodState st → AllByRecursion Settled (documents f cs st)
all_settled f [] st g = tt
all_settled f (c ∷ cs) st g = with_document c st _ g (all_settled f cs (next f c st) (stays_good (step f c st) st g (good_step f c st g)))

pub no_indent_after_text : NoIndentAfterText
no_indent_after_text w cs r = (sink_layout w cs (new r), all_settled w.form (accepted_calls cs (answers w cs (new r))) idle tt)
