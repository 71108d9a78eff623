-- Every call that the table lets through puts tags at the depth of the records that are open around them.
use Rattle.std.proofs.Common.{◌≡◌, ℕ, suc, Bool, true, false, cond, List, [], ◌∷◌, ◌++◌, length, Some, None, codes, IsUtf8, Option, sym, refl, ap, ◌∙◌, subst, append_assoc}
use Rattle.std.proofs.lemmas.List.{append-nil, map-append}
use Rattle.std.proofs.lemmas.Bool.{not-false}
use Rattle.refusal.specs.declared.Refusal.{Refusal}
use Rattle.refusal.specs.declared.Refusal.TheVariants.{Order, Bytes as BytesAt, Shape}
use Rattle.style.specs.declared.result.WriteResult.{WriteResult}
use Rattle.style.specs.declared.result.WriteResult.TheVariants.{Element as element_result, Nothing, SensitiveText}
use Rattle.style.specs.declared.style.EmptyElementHandling.{EmptyElementHandling}
use Rattle.style.specs.declared.style.EmptyElementHandling.TheVariants.{SelfClosed, SelfClosedWithSpace, Expanded}
use Rattle.xml.specs.declared.escape.Use.TheVariants.{Text as text_use, TextItem as text_item_use}
use Rattle.xml.specs.Escaping.{escaped}
use Rattle.xml.specs.Names.{Name, name_fault}
use Rattle.xml.proofs.Naming.{name_from_no_fault}
use Rattle.reader.specs.Trees.{Bytes, Attributes}
use Rattle.reader.specs.Reader.{Attribs, attribs_end}
use Rattle.model.specs.Strings.{null, utf8, whole}
use Rattle.model.specs.Calls.{Value, val_text, val_none, val_variant, val_wrapped, val_row, val_variant_row, val_record, val_variant_record, Call, call_open, call_field, call_value, call_end, call_finish, call_abandon, Key, key_attribute, key_text, key_value, key_element, key, is_text_name}
use Rattle.model.specs.Marks.{Mark, tag_byte, tagged, texted, less_than, shut}
use Rattle.model.specs.Model.{Body, Level, Row, named_row, content_row, Outer, Spot, element, content, text_spot, simple, words, Quote, single, several, State, idle, between, inside, quote, complete, stack, flag, spot_place}
use Rattle.model.specs.Step.{Move, done, on, opens_row, opens_record, Quoted, closed, still, gap, item, empty_child, text_child, put_element, put_content, put_text, put_simple, put_word, put, put_quote, settle, moved_if, row_state, requoted_if, close, leave, leave_quote, field, step, with_body, no_kids, end_tag}
use Rattle.model.specs.Grounds.{allowed, out_of_order, ill_formed, string_of, misshapen, misnamed, content_fault, value_fault, value_string}
use Rattle.model.specs.Says.{Said, nothing, says, Slot}
use Rattle.model.specs.Table.{Setting, table, first, judged, next, handed}
use Rattle.model.specs.Run.{Session, new, answers, answer_of, moved_on}
use Rattle.model.specs.Documents.{accepted_calls, document, documents}
use Rattle.std.specs.List.{AllByRecursion}
use Rattle.model.specs.Indents.{LessAt, indented, plain, ElementAt, empty_tag, spaced_empty_tag, tags, ContentAt, content_end, content_text, content_element, DepthOfIndents}
use Rattle.model.proofs.Moves.{Whenever, moves, land}
use Rattle.model.proofs.Tables.{none_first, when_none, fault_none}
use Rattle.model.proofs.Spelling.{utf8_true}
use Rattle.model.proofs.Documents.{sink_layout}
use Rattle.model.proofs.Together.{Same, same_element, same_content, same_text, same_simple, same_words, Sim, sim_idle, sim_between, sim_inside, sim_quote, sim_complete}
use Rattle.model.proofs.Simulation.{sim_step}

-- the children so far of the records around the innermost one, each at its depth
abbrev Depths : List Outer → Type 0
Depths [] = Unit {0}
Depths (o ∷ os) = ContentAt (suc (length os)) o.level.body.kids × Depths os

abbrev Deep : State → Type 0
Deep idle = Unit {0}
Deep (between l ls) = ContentAt (suc (length ls)) l.body.kids × Depths ls
Deep (inside s rs l ls) = ContentAt (suc (length ls)) l.body.kids × Depths ls
Deep (quote q l ls) = ContentAt (suc (length ls)) l.body.kids × Depths ls
Deep (complete ms) = ElementAt 0 ms

abbrev DeepMove : ℕ → Move → Type 0
DeepMove d (done r b) = ContentAt d b.kids
DeepMove d (on s b) = ContentAt d b.kids
DeepMove d (opens_row r) = Unit {0}
DeepMove d (opens_record u n) = Unit {0}

less_at : (g : Bool) (d : ℕ) → LessAt d (less_than g d)
less_at true d = indented
less_at false d = plain

-- content behind content
content_join : {d : ℕ} {xs ys : List Mark} → ContentAt d xs → ContentAt d ys → ContentAt d (xs ++ ys)
content_join content_end k = k
content_join (content_text h) k = content_text (content_join h k)
content_join {d} {ys = ys} (content_element {e = e} {c = c} x h) k =
    subst (λ (z : List Mark). ContentAt d z) (sym (append_assoc e c ys)) (content_element x (content_join h k))

content_one : {d : ℕ} {e : List Mark} → ElementAt d e → ContentAt d e
content_one {d} {e} h = subst (λ (z : List Mark). ContentAt d z) (append-nil e) (content_element h content_end)

content_texted : {d : ℕ} (s : Bytes) → ContentAt d (texted s)
content_texted [] = content_end
content_texted (b ∷ s) = content_text (content_texted s)

-- an expanded empty tag is a start tag and an end tag
expanded : (n a : Bytes) → tagged (n ++ (a ++ codes ">")) ++ (tag_byte 60 ∷ tagged (codes "/" ++ (n ++ codes ">"))) ≡ tagged (n ++ (a ++ shut Expanded n))
expanded n a =
    let z = codes "</" ++ (n ++ codes ">") in
    sym (map-append tag_byte (n ++ (a ++ codes ">")) z) ∙ ap tagged (append_assoc n (a ++ codes ">") z ∙ ap (λ y. n ++ y) (append_assoc a (codes ">") z))

shut_at : (f : EmptyElementHandling) {d : ℕ} {m : Mark} {n a : Bytes} {at : Attributes} → LessAt d m → Name n → Attribs a at → ElementAt d (m ∷ tagged (n ++ (a ++ shut f n)))
shut_at SelfClosed h k x = empty_tag h k x
shut_at SelfClosedWithSpace h k x = spaced_empty_tag h k x
shut_at Expanded {d} {m} {n} {a} h k x = subst (λ (z : List Mark). ElementAt d (m ∷ z)) (expanded n a) (tags h k x content_end plain)

-- a closed record, with its start tag and its end tag at one depth
record_at : (f : EmptyElementHandling) {d : ℕ} {m : Mark} (l : Level) {at : Attributes} → LessAt d m → Name l.name → Attribs l.attrs at → ContentAt (suc d) l.body.kids → (t : Bool) →
    ElementAt d (m ∷ cond t (tagged (l.name ++ (l.attrs ++ shut f l.name))) (tagged (l.name ++ (l.attrs ++ codes ">")) ++ (l.body.kids ++ end_tag d l)))
record_at f l h k x c true = shut_at f h k x
record_at f {d} l h k x c false = tags h k x c (less_at _ d)

-- a test in a definition, where both ways are deep
either : (d : ℕ) (t : Bool) (m n : Move) → DeepMove d m → DeepMove d n → DeepMove d (cond t m n)
either d true m n p q = p
either d false m n p q = q

module _ (f : EmptyElementHandling) (d : ℕ) (rs : List Row) (b : Body) (c : ContentAt d b.kids) where
  deep_empty : {n : Bytes} → Name n → DeepMove d (empty_child f d rs b n)
  deep_empty h = content_join c (content_one (shut_at f (less_at _ d) h attribs_end))

  deep_around : {n : Bytes} (s : Bytes) → Name n → DeepMove d (text_child f d rs b n s)
  deep_around s h = content_join c (content_one (tags (less_at _ d) h attribs_end (content_texted s) plain))

  deep_text : (s : Bytes) → ContentAt d (b.kids ++ texted s)
  deep_text s = content_join c (content_texted s)

  deep_element : (u : Bytes) {n : Bytes} → Name n → (v : Value) → Whenever (DeepMove d) (put_element f d rs b u n v)
  deep_element u h (val_text r s) = either d (null s) _ _ (deep_empty h) (deep_around (escaped (r.chooses text_use) s) h)
  deep_element u h val_none = deep_empty h
  deep_element u h (val_variant r v) = either d (is_text_name v) _ _ (deep_empty h) (deep_around (escaped (r.chooses text_use) v) h)
  deep_element u h (val_wrapped v) = tt
  deep_element u h val_row = tt
  deep_element u h (val_variant_row v) = tt
  deep_element u h (val_record m) = tt
  deep_element u h (val_variant_record v) = tt

  deep_content : (t : Bytes) (v : Value) → IsUtf8 (value_string v) → content_fault v ≡ None → Whenever (DeepMove d) (put_content f d rs b t v)
  deep_content t (val_text r s) x e = deep_text (escaped (r.chooses text_use) s)
  deep_content t val_none x e = c
  deep_content t (val_variant r v) x e = go (is_text_name v) e
    where
      go : (q : Bool) → cond q None (name_fault v) ≡ None → DeepMove d (cond q (done Nothing b) (empty_child f d rs b v))
      go true e = c
      go false e = deep_empty (name_from_no_fault x e)
  deep_content t (val_wrapped v) x e = either d (is_text_name v) (on simple b) (on (element t v) b) c c
  deep_content t val_row x e = tt
  deep_content t (val_variant_row v) x e = either d (is_text_name v) (on (words false) b) (opens_row (named_row t v (flag rs b))) c tt
  deep_content t (val_record n) x e = tt
  deep_content t (val_variant_record v) x e = tt

  deep_string : (v : Value) → Whenever (DeepMove d) (put_text b v)
  deep_string (val_text r s) = deep_text (escaped (r.chooses text_use) s)
  deep_string val_none = c
  deep_string (val_variant r v) = deep_text (cond (is_text_name v) [] (escaped (r.chooses text_use) v))
  deep_string (val_wrapped v) = tt
  deep_string val_row = c
  deep_string (val_variant_row v) = tt
  deep_string (val_record n) = tt
  deep_string (val_variant_record v) = tt

  deep_simple : (v : Value) → Whenever (DeepMove d) (put_simple b v)
  deep_simple (val_text r s) = deep_text (escaped (r.chooses text_use) s)
  deep_simple val_none = c
  deep_simple (val_variant r v) = deep_text (escaped (r.chooses text_use) v)
  deep_simple (val_wrapped v) = tt
  deep_simple val_row = c
  deep_simple (val_variant_row v) = tt
  deep_simple (val_record n) = tt
  deep_simple (val_variant_record v) = tt

  deep_item : (w : Bool) (chosen : ℕ → Bool) (s : Bytes) → DeepMove d (item w b chosen s)
  deep_item w chosen s = either d (null s) (on (words w) b) _ c (deep_text (gap w ++ escaped chosen s))

  deep_word : (w : Bool) (v : Value) → Whenever (DeepMove d) (put_word w b v)
  deep_word w (val_text r s) = deep_item w (r.chooses text_item_use) s
  deep_word w val_none = tt
  deep_word w (val_variant r v) = deep_item w (r.chooses text_item_use) v
  deep_word w (val_wrapped v) = tt
  deep_word w val_row = tt
  deep_word w (val_variant_row v) = tt
  deep_word w (val_record n) = tt
  deep_word w (val_variant_record v) = tt

  deep_put : (t : Bytes) {s : Spot} {sl : Slot} → Same s sl → (v : Value) → IsUtf8 (value_string v) → value_fault v (spot_place s) ≡ None → Whenever (DeepMove d) (put f d rs t b s v)
  deep_put t (same_element {u} h) v x e = deep_element u h v
  deep_put t same_content v x e = deep_content t v x e
  deep_put t same_text v x e = deep_string v
  deep_put t same_simple v x e = deep_simple v
  deep_put t (same_words {w} q) v x e = deep_word w v

-- a flag is no byte
deep_settle : (r : WriteResult) (rs : List Row) (l : Level) (ls : List Outer) → ContentAt (suc (length ls)) l.body.kids → Depths ls → Deep (settle r rs l ls)
deep_settle r [] l ls c os = (c, os)
deep_settle r (named_row u n h ∷ rs) l ls c os = (c, os)
deep_settle r (content_row t q h ∷ rs) l ls c os = (c, os)

deep_row : (r : Row) (rs : List Row) (l : Level) (ls : List Outer) → ContentAt (suc (length ls)) l.body.kids → Depths ls → Deep (row_state r rs l ls)
deep_row (named_row u n h) rs l ls c os = (c, os)
deep_row (content_row t q h) rs l ls c os = (c, os)

deep_moved_if : (rs : List Row) (l : Level) (ls : List Outer) → ContentAt (suc (length ls)) l.body.kids → Depths ls → (o : Option Move) → Whenever (DeepMove (suc (length ls))) o → Whenever Deep (moved_if rs l ls o)
deep_moved_if rs l ls c os None h = tt
deep_moved_if rs l ls c os (Some (done r b)) h = deep_settle r rs (with_body l b) ls h os
deep_moved_if rs l ls c os (Some (on s b)) h = (h, os)
deep_moved_if rs l ls c os (Some (opens_row r)) h = deep_row r rs l ls c os
deep_moved_if rs l ls c os (Some (opens_record u n)) h = (content_end, (c, os))

deep_requoted : (l : Level) (ls : List Outer) → ContentAt (suc (length ls)) l.body.kids → Depths ls → (o : Option Quoted) → Whenever Deep (requoted_if l ls o)
deep_requoted l ls c os None = tt
deep_requoted l ls c os (Some (closed a)) = (c, os)
deep_requoted l ls c os (Some (still q)) = (c, os)

deep_close : (f : EmptyElementHandling) (l : Level) {at : Attributes} (ls : List Outer) → Name l.name → Attribs l.attrs at → ContentAt (suc (length ls)) l.body.kids → Depths ls → Deep (close f l ls)
deep_close f l [] h a c os = record_at f l plain h a c (no_kids l.body.kids)
deep_close f l (o ∷ ls) h a c os =
    let d = suc (length ls) in
    let e = record_at f {d = d} l (less_at _ d) h a c (no_kids l.body.kids) in
    deep_settle element_result o.rows _ ls (content_join os.0 (content_one e)) os.1

deep_leave : (s : Spot) (rs : List Row) (l : Level) (ls : List Outer) → ContentAt (suc (length ls)) l.body.kids → Depths ls → Whenever Deep (leave s rs l ls)
deep_leave (element u n) [] l ls c os = tt
deep_leave (element u n) (named_row t m h ∷ rs) l ls c os = deep_settle element_result rs l ls c os
deep_leave (element u n) (content_row t r h ∷ rs) l ls c os = tt
deep_leave (content p) [] l ls c os = tt
deep_leave (content p) (named_row t m h ∷ rs) l ls c os = tt
deep_leave (content p) (content_row t r h ∷ rs) l ls c os = deep_settle r rs l ls c os
deep_leave text_spot rs l ls c os = tt
deep_leave simple rs l ls c os = tt
deep_leave (words w) rs l ls c os = deep_settle SensitiveText rs l ls c os

deep_leave_quote : (q : Quote) (l : Level) (ls : List Outer) → ContentAt (suc (length ls)) l.body.kids → Depths ls → Whenever Deep (leave_quote q l ls)
deep_leave_quote (single k) l ls c os = tt
deep_leave_quote (several k v w) l ls c os = (c, os)

deep_field : (k : Key) (l : Level) (ls : List Outer) → ContentAt (suc (length ls)) l.body.kids → Depths ls → Deep (field k l ls)
deep_field (key_attribute k) l ls c os = (c, os)
deep_field key_text l ls c os = (c, os)
deep_field key_value l ls c os = (c, os)
deep_field (key_element n) l ls c os = (c, os)

-- with what is said beside it, which has the names of the open tags
deep_step : (f : EmptyElementHandling) (c : Call) {st : State} {sd : Said} → Sim st sd → IsUtf8 (string_of c) → misnamed c st ≡ None → Deep st → Whenever Deep (step f c st)
deep_step f (call_open n) sim_idle u e h = (content_end, tt)
deep_step f (call_open n) (sim_between m a k os) u e h = tt
deep_step f (call_open n) (sim_inside s m a k rd os) u e h = tt
deep_step f (call_open n) (sim_quote q m a k os) u e h = tt
deep_step f (call_open n) (sim_complete t) u e h = tt
deep_step f (call_field n) sim_idle u e h = tt
deep_step f (call_field n) (sim_between {l} {ls} m a k os) u e h = deep_field (key n) l ls h.0 h.1
deep_step f (call_field n) (sim_inside s m a k rd os) u e h = tt
deep_step f (call_field n) (sim_quote q m a k os) u e h = tt
deep_step f (call_field n) (sim_complete t) u e h = tt
deep_step f (call_value v) sim_idle u e h = tt
deep_step f (call_value v) (sim_between m a k os) u e h = tt
deep_step f (call_value v) (sim_inside {s = s} {rs = rs} {l = l} {ls = ls} x m a k rd os) u e h =
    deep_moved_if rs l ls h.0 h.1 (put f (suc (length ls)) rs (stack rs l) l.body s v) (deep_put f (suc (length ls)) rs l.body h.0 (stack rs l) x v u e)
deep_step f (call_value v) (sim_quote {q = q} {l = l} {ls = ls} x m a k os) u e h = deep_requoted l ls h.0 h.1 (put_quote q v)
deep_step f (call_value v) (sim_complete t) u e h = tt
deep_step f call_end sim_idle u e h = tt
deep_step f call_end (sim_between {l} {ls} m a k os) u e h = deep_close f l ls m a.reads h.0 h.1
deep_step f call_end (sim_inside {s = s} {rs = rs} {l = l} {ls = ls} x m a k rd os) u e h = deep_leave s rs l ls h.0 h.1
deep_step f call_end (sim_quote {q = q} {l = l} {ls = ls} x m a k os) u e h = deep_leave_quote q l ls h.0 h.1
deep_step f call_end (sim_complete t) u e h = tt
deep_step f call_finish sim_idle u e h = tt
deep_step f call_finish (sim_between m a k os) u e h = tt
deep_step f call_finish (sim_inside s m a k rd os) u e h = tt
deep_step f call_finish (sim_quote q m a k os) u e h = tt
deep_step f call_finish (sim_complete t) u e h = tt
deep_step f call_abandon sim_idle u e h = tt
deep_step f call_abandon (sim_between m a k os) u e h = tt
deep_step f call_abandon (sim_inside s m a k rd os) u e h = tt
deep_step f call_abandon (sim_quote q m a k os) u e h = tt
deep_step f call_abandon (sim_complete t) u e h = tt

-- only a finish at a complete record gives a document
with_document : (c : Call) (st : State) (ds : List (List Mark)) → Deep st → AllByRecursion (ElementAt 0) ds → AllByRecursion (ElementAt 0) (document c st ++ ds)
with_document (call_open n) st ds g h = h
with_document (call_field k) st ds g h = h
with_document (call_value v) st ds g h = h
with_document call_end st ds g h = h
with_document call_finish idle ds g h = h
with_document call_finish (between l ls) ds g h = h
with_document call_finish (inside s rs l ls) ds g h = h
with_document call_finish (quote q l ls) ds g h = h
with_document call_finish (complete ms) ds g h = (g, h)
with_document call_abandon st ds g h = h

-- a writer with what its calls say beside it, and all at its depth
record Beside (st : State) (sd : Said) : Type 0 where
  sim : Sim st sd
  deep : Deep st

module _ (w : Setting) where
  beside_next : (c : Call) (s : Session) {sd : Said} → Beside s.model sd → first (table w s.room c s.model) ≡ None → Beside (next w.form c s.model) (says c sd)
  beside_next c s {sd} h e =
      let st = s.model in
      let n = none_first (table w s.room c st) e in
      let a = not-false (allowed c st) (when_none (out_of_order c st) Order n.0) in
      let u = utf8_true (string_of c) (not-false (utf8 (string_of c)) (when_none (ill_formed c) (BytesAt (whole (string_of c))) n.1.0)) in
      let p = when_none (misshapen c st) Shape n.1.1.0 in
      let k = fault_none (misnamed c st) n.1.1.1.1.0 in
      let there = moves w.form c st a p in
      record { sim = land (λ x. Sim x (says c sd)) st (step w.form c st) there (sim_step w.form c h.sim u k); deep = land Deep st (step w.form c st) there (deep_step w.form c h.sim u k h.deep) }

  abbrev AllDeep : List Call → Session → Type 0
  AllDeep cs s = AllByRecursion (ElementAt 0) (documents w.form (accepted_calls cs (answers w cs s)) s.model)

  -- one call, by the first row of the table that applies
  deep_more : (c : Call) (cs : List Call) (s : Session) (sd : Said) → Beside s.model sd → ((t : Session) (td : Said) → Beside t.model td → AllDeep cs t) → (o : Option Refusal) → first (table w s.room c s.model) ≡ o →
      AllByRecursion (ElementAt 0) (documents w.form (accepted_calls (c ∷ cs) (answer_of (judged o (next w.form c s.model)) ∷ answers w cs (moved_on s (handed w.indentation c s.model) (judged o (next w.form c s.model))))) s.model)
  deep_more c cs s sd h rest (Some x) e = rest s sd h
  deep_more c cs s sd h rest None e =
      with_document c s.model _ h.deep (rest (moved_on s (handed w.indentation c s.model) (judged None (next w.form c s.model))) (says c sd) (beside_next c s h e))

  all_deep : (cs : List Call) (s : Session) (sd : Said) → Beside s.model sd → AllDeep cs s
  all_deep [] s sd h = tt
  all_deep (c ∷ cs) s sd h = deep_more c cs s sd h (λ t td k. all_deep cs t td k) (first (table w s.room c s.model)) refl

pub depth_of_indents : DepthOfIndents
depth_of_indents w cs r =
    (sink_layout w cs (new r), all_deep w cs (new r) nothing (record { sim = sim_idle; deep = tt }), record { before_its_tag = λ i d. refl; indented = λ i d. refl; unindented = λ d. refl; of_tags = λ i b. refl; of_texts = λ i b. refl })
