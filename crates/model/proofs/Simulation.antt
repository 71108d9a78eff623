-- Every call that the table lets through keeps the writer and what its calls say together.
use Rattle.std.proofs.Common.{◌≡◌, ℕ, suc, Bool, true, false, cond, not, ◌&&◌, List, [], ◌∷◌, ◌++◌, length, None, IsUtf8, Option, sym, refl, ap, ◌∙◌, subst}
use Rattle.std.proofs.lemmas.List.{append-nil}
use Rattle.style.specs.declared.result.WriteResult.{WriteResult}
use Rattle.style.specs.declared.result.WriteResult.TheVariants.{Element as element_result, Nothing, SensitiveText, SensitiveNothing}
use Rattle.style.specs.declared.style.EmptyElementHandling.{EmptyElementHandling}
use Rattle.xml.specs.declared.escape.Use.TheVariants.{Text, Attribute, TextItem, AttributeItem}
use Rattle.xml.specs.Escaping.{escaped, Lawful}
use Rattle.xml.specs.Names.{Name, name_fault}
use Rattle.xml.specs.Reading.{AttValue}
use Rattle.reader.specs.Trees.{Bytes, Attributes, Nodes, text, before, ◌⧺◌}
use Rattle.reader.specs.Trees as T
use Rattle.reader.specs.Reader.{Attribs}
use Rattle.xml.proofs.Naming.{name_from_no_fault}
use Rattle.reader.proofs.Sound.{Written}
use Rattle.reader.proofs.Calm.{Calm}
use Rattle.reader.proofs.Written.{text_child, value-++, string_value, no_attribs, attribs-++, attrib}
use Rattle.reader.proofs.Written as R
use Rattle.model.specs.Strings.{null}
use Rattle.model.specs.Calls.{Value, val_text, val_none, val_variant, val_wrapped, val_row, val_variant_row, val_record, val_variant_record, Call, call_open, call_field, call_value, call_end, call_finish, call_abandon, Key, key_attribute, key_text, key_value, key_element, key, is_text_name}
use Rattle.model.specs.Marks.{texted, empty_element, text_element}
use Rattle.model.specs.Model.{Body, Level, Row, named_row, Outer, Spot, element, simple, words, Quote, State, between, inside, stack, flag, start, child_start, spot_place}
use Rattle.model.specs.Step as W
use Rattle.model.specs.Step.{Move, Quoted, with_tag, with_text, with_body, gap, item, put_element, put_content, put_text, put_simple, put_word, put, put_single, put_several, put_quote, attribute, quoted_item, settle, moved, moved_if, requoted, requoted_if, closed_record, close, leave, field, step}
use Rattle.model.specs.Grounds.{content_fault, value_fault, key_fault, misnamed, value_string, string_of}
use Rattle.model.specs.Says as S
use Rattle.model.specs.Says.{Items, elements, Part, Slot, no_value, an_element, a_simple, a_word, a_value_word, Said, during, next_slot, list_text, says_element, says_child, says_text, says_simple, says_word, says_value, says_attribute, says_value_word, says_field, says_end, says, adds}
use Rattle.model.proofs.Spelling.{behind_none, WellFormedKey, well_formed_key}
use Rattle.model.proofs.Flatten.{plain_less}
use Rattle.model.proofs.Words.{list_same, list_more, list_there}
use Rattle.model.proofs.Moves.{Whenever}
use Rattle.model.proofs.Reading.{lawful, Kids, no_marks, kids_same, kids_text, kids_list, kids_word, gap_word, gap_value, kids_element, empty_reads, around_reads, closed_reads}
use Rattle.model.proofs.Together.{part, Rowed, Oks, Same, flush, SameQuote, Sim, rowed_none, rowed_named, rowed_mixed, oks_none, oks_more, same_element, same_content, same_text, same_simple, same_words, same_single, same_several, sim_idle, sim_between, sim_inside, sim_quote, sim_complete}

empty_value : Written AttValue [] []
empty_value = R.no_value

-- in one record, with its tag read and the records around it
module _ (l : Level) {at : Attributes} {ls : List Outer} {ps : List Part} (h : Name l.name) (a : Written Attribs l.attrs at) (os : Oks ls ps) where
  -- a complete value: both sides wait for the next field or item
  sim_settle : (r : WriteResult) {rs : List Row} {is : List Items} (b : Body) {ks : Nodes} → Rowed rs is → Kids b.kids ks → Sim (settle r rs (with_body l b) ls) (during (next_slot is) (part l.name at ks is) ps)
  sim_settle r b rowed_none k = sim_between h a k os
  sim_settle r b (rowed_named n rd) k = sim_inside (same_element n) h a k (rowed_named n rd) os
  sim_settle r b (rowed_mixed rd) k = sim_inside same_content h a k (rowed_mixed rd) os

  sim_opens : (u n : Bytes) {rs : List Row} {is : List Items} {ks : Nodes} → Name n → Rowed rs is → Kids l.body.kids ks → Sim (between (W.new_level u n) (record { level = l; rows = rs } ∷ ls)) (during no_value (S.begin n) (part l.name at ks is ∷ ps))
  sim_opens u n m rd k = sim_between m no_attribs no_marks (oks_more h a k rd os)

  module _ (f : EmptyElementHandling) (d : ℕ) {rs : List Row} {is : List Items} (ks : Nodes) (rd : Rowed rs is) where
    abbrev here : Part
    here = part l.name at ks is

    abbrev Goes : Said → Option Move → Type 0
    Goes sd o = Whenever (λ st. Sim st sd) (moved_if rs l ls o)

    sim_empty : {n : Bytes} → Name n → Kids l.body.kids ks → Sim (moved rs l ls (W.empty_child f d rs l.body n)) (S.empty_elem here ps n)
    sim_empty {n} m k =
        sim_settle element_result (with_tag l.body (child_start rs l.body d ∷ empty_element f n)) rd (kids_element (child_start rs l.body d ∷ empty_element f n) k (empty_reads f (flag rs l.body && not l.body.wordy) d m))

    sim_around : {n : Bytes} (e s : Bytes) → Name n → Written Calm e (before s T.done) → Kids l.body.kids ks → Sim (moved rs l ls (W.text_child f d rs l.body n e)) (S.text_elem here ps n s)
    sim_around {n} e s m w k =
        sim_settle element_result (with_tag l.body (child_start rs l.body d ∷ text_element n e)) rd (kids_element (child_start rs l.body d ∷ text_element n e) k (around_reads (flag rs l.body && not l.body.wordy) d s m w))

    -- a text behind the children
    sim_text : (s : Bytes) {e : Bytes} → Written Calm e (before s T.done) → Kids l.body.kids ks → Sim (settle SensitiveText rs (with_body l (with_text l.body e)) ls) (adds here ps (text s T.done))
    sim_text s {e} w k = sim_settle SensitiveText (with_text l.body e) rd (kids_text s k w)

    sim_nothing : (r : WriteResult) → Kids l.body.kids ks → Sim (settle r rs (with_body l l.body) ls) (adds here ps T.done)
    sim_nothing r k = sim_settle r l.body rd (kids_same k)

    sim_element : (u : Bytes) {n : Bytes} → Name n → Kids l.body.kids ks → (v : Value) → IsUtf8 (value_string v) → Goes (says_element here ps n v) (put_element f d rs l.body u n v)
    sim_element u m k (val_text r []) x = sim_empty m k
    sim_element u m k (val_text r (b ∷ s)) x = sim_around (escaped (r.chooses Text) (b ∷ s)) (b ∷ s) m (text_child (lawful r Text) x) k
    sim_element u m k val_none x = sim_empty m k
    sim_element u {n} m k (val_variant r v) x = go (is_text_name v)
      where
        go : (t : Bool) → Sim (moved rs l ls (cond t (W.empty_child f d rs l.body n) (W.text_child f d rs l.body n (escaped (r.chooses Text) v)))) (cond t (S.empty_elem here ps n) (S.text_elem here ps n v))
        go true = sim_empty m k
        go false = sim_around (escaped (r.chooses Text) v) v m (text_child (lawful r Text) x) k
    sim_element u m k (val_wrapped v) x = tt
    sim_element u m k val_row x = sim_inside (same_element m) h a k (rowed_named m rd) os
    sim_element u m k (val_variant_row v) x = tt
    sim_element u {n} m k (val_record o) x = sim_opens u n m rd k
    sim_element u m k (val_variant_record v) x = tt

    -- a list that has just begun
    sim_list : Kids l.body.kids ks → Sim (inside (words false) rs (with_body l l.body) ls) (during (a_word []) here ps)
    sim_list k = sim_inside (same_words refl) h a (kids_list k) rd os

    sim_child : (t : Bytes) → Kids l.body.kids ks → (v : Value) → IsUtf8 (value_string v) → content_fault v ≡ None → Goes (says_child here ps v) (put_content f d rs l.body t v)
    sim_child t k (val_text r s) x e = sim_text s (text_child (lawful r Text) x) k
    sim_child t k val_none x e = sim_nothing SensitiveNothing k
    sim_child t k (val_variant r v) x e = go (is_text_name v) e
      where
        go : (q : Bool) → cond q None (name_fault v) ≡ None → Sim (moved rs l ls (cond q (W.done Nothing l.body) (W.empty_child f d rs l.body v))) (cond q (adds here ps T.done) (S.empty_elem here ps v))
        go true e = sim_nothing Nothing k
        go false e = sim_empty (name_from_no_fault x e) k
    sim_child t k (val_wrapped v) x e = go (is_text_name v) e
      where
        go : (q : Bool) → cond q None (name_fault v) ≡ None → Sim (moved rs l ls (cond q (W.on simple l.body) (W.on (element t v) l.body))) (during (cond q a_simple (an_element v)) here ps)
        go true e = sim_inside same_simple h a k rd os
        go false e = sim_inside (same_element (name_from_no_fault x e)) h a k rd os
    sim_child t k val_row x e = sim_inside same_content h a k (rowed_mixed rd) os
    sim_child t k (val_variant_row v) x e = go (is_text_name v) e
      where
        go : (q : Bool) → cond q None (name_fault v) ≡ None → Sim (moved rs l ls (cond q (W.on (words false) l.body) (W.opens_row (named_row t v (flag rs l.body))))) (cond q (during (a_word []) here ps) (S.opens_row here ps (elements v)))
        go true e = sim_list k
        go false e = sim_inside (same_element (name_from_no_fault x e)) h a k (rowed_named (name_from_no_fault x e) rd) os
    sim_child t k (val_record n) x e = sim_opens t n (name_from_no_fault x e) rd k
    sim_child t k (val_variant_record n) x e = sim_opens t n (name_from_no_fault x e) rd k

    sim_text_field : Kids l.body.kids ks → (v : Value) → IsUtf8 (value_string v) → Goes (says_text here ps v) (put_text l.body v)
    sim_text_field k (val_text r s) x = sim_text s (text_child (lawful r Text) x) k
    sim_text_field k val_none x = sim_nothing SensitiveText k
    sim_text_field k (val_variant r v) x = go (is_text_name v)
      where
        none_written : Kids (l.body.kids ++ []) (ks ⧺ T.done)
        none_written = rw append-nil (kids_same k)

        go : (q : Bool) → Sim (settle SensitiveText rs (with_body l (with_text l.body (cond q [] (escaped (r.chooses Text) v)))) ls) (adds here ps (cond q T.done (text v T.done)))
        go true = sim_settle SensitiveText (with_text l.body []) rd none_written
        go false = sim_text v (text_child (lawful r Text) x) k
    sim_text_field k (val_wrapped v) x = tt
    sim_text_field k val_row x = sim_list k
    sim_text_field k (val_variant_row v) x = tt
    sim_text_field k (val_record n) x = tt
    sim_text_field k (val_variant_record v) x = tt

    sim_simple : Kids l.body.kids ks → (v : Value) → IsUtf8 (value_string v) → Goes (says_simple here ps v) (put_simple l.body v)
    sim_simple k (val_text r s) x = sim_text s (text_child (lawful r Text) x) k
    sim_simple k val_none x = sim_nothing SensitiveText k
    sim_simple k (val_variant r v) x = sim_text v (text_child (lawful r Text) x) k
    sim_simple k (val_wrapped v) x = tt
    sim_simple k val_row x = sim_list k
    sim_simple k (val_variant_row v) x = tt
    sim_simple k (val_record n) x = tt
    sim_simple k (val_variant_record v) x = tt

    -- one more item of a list that is a text
    sim_item : {chosen : ℕ → Bool} (w : Bool) (ws : List Bytes) (s : Bytes) → Lawful TextItem chosen → IsUtf8 s → w ≡ not (null (list_text ws)) → Kids l.body.kids (ks ⧺ text (list_text ws) T.done) →
        Sim (moved rs l ls (item w l.body chosen s)) (during (a_word (ws ++ (s ∷ []))) here ps)
    sim_item w ws [] lw x e k =
        let p = list_same ws [] refl in
        sim_inside (same_words (e ∙ ap (λ y. not (null y)) (sym p))) h a (rw p k) rd os
    sim_item {chosen} w ws (b ∷ s) lw x e k =
        let p : list_text ws ++ (gap w ++ (b ∷ s)) ≡ list_text (ws ++ ((b ∷ s) ∷ [])) = ap (λ y. list_text ws ++ (gap y ++ (b ∷ s))) e ∙ sym (list_more ws (b ∷ s) refl) in
        let q = kids_word ks (list_text ws) (gap w ++ (b ∷ s)) k (gap_word w lw x) in
        let z : Kids (l.body.kids ++ texted (gap w ++ escaped chosen (b ∷ s))) (ks ⧺ text (list_text (ws ++ ((b ∷ s) ∷ []))) T.done) = subst (λ (y : Bytes). Kids (l.body.kids ++ texted (gap w ++ escaped chosen (b ∷ s))) (ks ⧺ text y T.done)) p q in
        sim_inside {l = with_body l (with_text l.body (gap w ++ escaped chosen (b ∷ s)))} (same_words (sym (ap not (list_there ws (b ∷ s) refl)))) h a z rd os

    sim_word : (w : Bool) (ws : List Bytes) → w ≡ not (null (list_text ws)) → Kids l.body.kids (ks ⧺ text (list_text ws) T.done) → (v : Value) → IsUtf8 (value_string v) → Goes (says_word here ps ws v) (put_word w l.body v)
    sim_word w ws e k (val_text r s) x = sim_item w ws s (lawful r TextItem) x e k
    sim_word w ws e k val_none x = tt
    sim_word w ws e k (val_variant r v) x = sim_item w ws v (lawful r TextItem) x e k
    sim_word w ws e k (val_wrapped v) x = tt
    sim_word w ws e k val_row x = tt
    sim_word w ws e k (val_variant_row v) x = tt
    sim_word w ws e k (val_record n) x = tt
    sim_word w ws e k (val_variant_record v) x = tt

    sim_value : (t : Bytes) {s : Spot} {sl : Slot} → Same s sl → Kids l.body.kids (flush sl ks) → (v : Value) → IsUtf8 (value_string v) → value_fault v (spot_place s) ≡ None → Goes (says_value here ps sl v) (put f d rs t l.body s v)
    sim_value t (same_element {u} m) k v x e = sim_element u m k v x
    sim_value t same_content k v x e = sim_child t k v x e
    sim_value t same_text k v x e = sim_text_field k v x
    sim_value t same_simple k v x e = sim_simple k v x
    sim_value t (same_words {w} {ws} q) k v x e = sim_word w ws q k v x

  -- attributes
  module _ {ks : Nodes} (k : Kids l.body.kids ks) where
    sim_attribute : {n raw v : Bytes} → Name n → Written AttValue raw v → Sim (between (W.with_attribute l (attribute n raw)) ls) (S.gets_attribute (part l.name at ks []) ps n v)
    sim_attribute m w = sim_between h (attribs-++ a (attrib m w)) k os

    abbrev Requotes : Said → Option Quoted → Type 0
    Requotes sd o = Whenever (λ st. Sim st sd) (requoted_if l ls o)

    sim_single : {n : Bytes} → Name n → (v : Value) → IsUtf8 (value_string v) → Requotes (says_attribute (part l.name at ks []) ps n v) (put_single n v)
    sim_single m (val_text r s) x = sim_attribute m (string_value (lawful r Attribute) x)
    sim_single m val_none x = sim_attribute m empty_value
    sim_single m (val_variant r v) x = sim_attribute m (string_value (lawful r Attribute) x)
    sim_single m (val_wrapped v) x = tt
    sim_single m val_row x = sim_quote (same_several m empty_value refl) h a k os
    sim_single m (val_variant_row v) x = tt
    sim_single m (val_record n) x = tt
    sim_single m (val_variant_record v) x = tt

    sim_quoted_item : {n val : Bytes} {chosen : ℕ → Bool} (w : Bool) (ws : List Bytes) (s : Bytes) → Name n → Written AttValue val (list_text ws) → w ≡ not (null (list_text ws)) → Lawful AttributeItem chosen → IsUtf8 s →
        Sim (requoted l ls (quoted_item n val w chosen s)) (during (a_value_word n (ws ++ (s ∷ []))) (part l.name at ks []) ps)
    sim_quoted_item w ws [] m c e lw x =
        let p = list_same ws [] refl in
        sim_quote (same_several m (rw p c) (e ∙ ap (λ y. not (null y)) (sym p))) h a k os
    sim_quoted_item {n} {val} {chosen} w ws (b ∷ s) m c e lw x =
        let p : list_text ws ++ (gap w ++ (b ∷ s)) ≡ list_text (ws ++ ((b ∷ s) ∷ [])) = ap (λ y. list_text ws ++ (gap y ++ (b ∷ s))) e ∙ sym (list_more ws (b ∷ s) refl) in
        let q : Written AttValue (val ++ (gap w ++ escaped chosen (b ∷ s))) (list_text (ws ++ ((b ∷ s) ∷ []))) = subst (λ (y : Bytes). Written AttValue (val ++ (gap w ++ escaped chosen (b ∷ s))) y) p (value-++ c (gap_value w lw x)) in
        sim_quote (same_several m q (sym (ap not (list_there ws (b ∷ s) refl)))) h a k os

    sim_several : {n val : Bytes} (w : Bool) (ws : List Bytes) → Name n → Written AttValue val (list_text ws) → w ≡ not (null (list_text ws)) → (v : Value) → IsUtf8 (value_string v) →
        Requotes (says_value_word (part l.name at ks []) ps n ws v) (put_several n val w v)
    sim_several w ws m c e (val_text r s) x = sim_quoted_item w ws s m c e (lawful r AttributeItem) x
    sim_several w ws m c e val_none x = tt
    sim_several w ws m c e (val_variant r v) x = sim_quoted_item w ws v m c e (lawful r AttributeItem) x
    sim_several w ws m c e (val_wrapped v) x = tt
    sim_several w ws m c e val_row x = tt
    sim_several w ws m c e (val_variant_row v) x = tt
    sim_several w ws m c e (val_record n) x = tt
    sim_several w ws m c e (val_variant_record v) x = tt

    sim_quoted : {q : Quote} {sl : Slot} → SameQuote q sl → (v : Value) → IsUtf8 (value_string v) → Requotes (says_value (part l.name at ks []) ps sl v) (put_quote q v)
    sim_quoted (same_single m) v x = sim_single m v x
    sim_quoted (same_several {w = w} {ws} m c e) v x = sim_several w ws m c e v x

    sim_field : (q : Key) → WellFormedKey q → key_fault q ≡ None → Sim (field q l ls) (says_field (part l.name at ks []) ps q)
    sim_field (key_attribute n) u e = sim_quote (same_single (name_from_no_fault u (behind_none 1 (name_fault n) e))) h a k os
    sim_field key_text u e = sim_inside same_text h a k rowed_none os
    sim_field key_value u e = sim_inside same_content h a k rowed_none os
    sim_field (key_element n) u e = sim_inside (same_element (name_from_no_fault u e)) h a k rowed_none os

-- the end of a record
sim_close : (f : EmptyElementHandling) (l : Level) {at : Attributes} {ks : Nodes} {ls : List Outer} {ps : List Part} → Name l.name → Written Attribs l.attrs at → Kids l.body.kids ks → Oks ls ps →
    Sim (close f l ls) (S.closes_element (part l.name at ks []) ps)
sim_close f l h a k oks_none = sim_complete (closed_reads f 0 (start []) refl l h a k)
sim_close f l h a k (oks_more {l = o} {rs = rs} {os = os} h' a' k' rd os') =
    let d = suc (length os) in
    let m = child_start rs o.body d in
    let e = closed_reads f d m (plain_less (flag rs o.body && not o.body.wordy) d) l h a k in
    sim_settle o h' a' os' element_result (with_tag o.body (closed_record f d m l)) rd (kids_element (closed_record f d m l) k' e)

-- the end of a row or a list
sim_leave : (l : Level) (ks : Nodes) {at : Attributes} {ls : List Outer} {ps : List Part} {s : Spot} {sl : Slot} {rs : List Row} {is : List Items} → Same s sl → Name l.name → Written Attribs l.attrs at → Kids l.body.kids (flush sl ks) → Rowed rs is → Oks ls ps →
    Whenever (λ st. Sim st (says_end sl (part l.name at ks is) ps)) (leave s rs l ls)
sim_leave l ks (same_element m) h a k rowed_none os = tt
sim_leave l ks (same_element m) h a k (rowed_named n rd) os = sim_settle l h a os element_result l.body rd k
sim_leave l ks (same_element m) h a k (rowed_mixed rd) os = tt
sim_leave l ks same_content h a k rowed_none os = tt
sim_leave l ks same_content h a k (rowed_named n rd) os = tt
sim_leave l ks same_content h a k (rowed_mixed {r = r} rd) os = sim_settle l h a os r l.body rd k
sim_leave l ks same_text h a k rd os = tt
sim_leave l ks same_simple h a k rd os = tt
sim_leave l ks (same_words e) h a k rd os = sim_settle l h a os SensitiveText l.body rd k

-- every call that the table lets through keeps both sides together
pub sim_step : (f : EmptyElementHandling) (c : Call) {st : State} {sd : Said} → Sim st sd → IsUtf8 (string_of c) → misnamed c st ≡ None → Whenever (λ x. Sim x (says c sd)) (step f c st)
sim_step f (call_open n) sim_idle u e = sim_between (name_from_no_fault u e) no_attribs no_marks oks_none
sim_step f (call_open n) (sim_between h a k os) u e = tt
sim_step f (call_open n) (sim_inside s h a k rd os) u e = tt
sim_step f (call_open n) (sim_quote q h a k os) u e = tt
sim_step f (call_open n) (sim_complete t) u e = tt
sim_step f (call_field n) sim_idle u e = tt
sim_step f (call_field n) (sim_between {l} h a k os) u e = sim_field l h a os k (key n) (well_formed_key n u) e
sim_step f (call_field n) (sim_inside s h a k rd os) u e = tt
sim_step f (call_field n) (sim_quote q h a k os) u e = tt
sim_step f (call_field n) (sim_complete t) u e = tt
sim_step f (call_value v) sim_idle u e = tt
sim_step f (call_value v) (sim_between h a k os) u e = tt
sim_step f (call_value v) (sim_inside {rs = rs} {l = l} {ls = ls} {ks = ks} s h a k rd os) u e = sim_value l h a os f (suc (length ls)) ks rd (stack rs l) s k v u e
sim_step f (call_value v) (sim_quote {l = l} q h a k os) u e = sim_quoted l h a os k q v u
sim_step f (call_value v) (sim_complete t) u e = tt
sim_step f call_end sim_idle u e = tt
sim_step f call_end (sim_between {l} h a k os) u e = sim_close f l h a k os
sim_step f call_end (sim_inside {l = l} {ks = ks} s h a k rd os) u e = sim_leave l ks s h a k rd os
sim_step f call_end (sim_quote (same_single m) h a k os) u e = tt
sim_step f call_end (sim_quote {l = l} (same_several m c q) h a k os) u e = sim_attribute l h a os k m c
sim_step f call_end (sim_complete t) u e = tt
sim_step f call_finish sim_idle u e = tt
sim_step f call_finish (sim_between h a k os) u e = tt
sim_step f call_finish (sim_inside s h a k rd os) u e = tt
sim_step f call_finish (sim_quote q h a k os) u e = tt
sim_step f call_finish (sim_complete t) u e = sim_idle
sim_step f call_abandon sim_idle u e = tt
sim_step f call_abandon (sim_between h a k os) u e = sim_idle
sim_step f call_abandon (sim_inside s h a k rd os) u e = sim_idle
sim_step f call_abandon (sim_quote q h a k os) u e = sim_idle
sim_step f call_abandon (sim_complete t) u e = sim_idle
