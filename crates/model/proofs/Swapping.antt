-- An attribute's field changes only the tag of its record, so it may change places with a child field next to it.
use Rattle.std.proofs.Common.{◌≡◌, ℕ, zero, suc, Bool, true, false, cond, List, [], ◌∷◌, ◌++◌, Some, None, Option, sym, refl, ap, ◌∙◌, subst, append_assoc}
use Rattle.std.proofs.lemmas.List.{append-nil}
use Rattle.std.proofs.lemmas.Bool.{false≢true}
use Rattle.style.specs.declared.style.EmptyElementHandling.{EmptyElementHandling}
use Rattle.reader.specs.Trees.{Bytes}
use Rattle.model.specs.Calls.{Value, Call, call_open, call_field, call_value, call_end, call_finish, call_abandon, Key, key_attribute, key, is_text_name, is_value_name, key_text, key_value, key_element}
use Rattle.model.specs.Model.{Level, Outer, Quote, single, several, State, idle, between, inside, quote, complete}
use Rattle.model.specs.Step.{Quoted, closed, still, put_quote, requoted, requoted_if, attribute, with_attribute, field, step}
use Rattle.model.specs.Table.{Setting, next, or_stay}
use Rattle.model.specs.Run.{Session, new, writer, run, answers, all_accepted}
use Rattle.model.specs.Documents.{accepted_calls, document, documents, layouts}
use Rattle.model.specs.Fields.{completes, nothing_follows, Field, calls, names_attribute}
use Rattle.model.specs.Laws.{AttributesChangePlaces}
use Rattle.model.proofs.Moves.{There, Whenever}
use Rattle.model.proofs.Tables.{run-++}
use Rattle.model.proofs.Documents.{sink_layout, agree_accepted}
use Rattle.model.proofs.Landing.{landing, landing-++, Stepping, stepping_front, run_lands, all_calls, accepted_stepping}
use Rattle.model.proofs.Focus.{lev, quote_plus}
use Rattle.model.proofs.Weight.{Sort, leaf, wrapper, opener, sort, counted, counted_is, QuoteFits, quote_fits}
use Rattle.model.proofs.ChildFields.{child_lands}

-- the calls write this into the tag, whichever record it is
abbrev Writes : EmptyElementHandling → List Call → (Level → List Outer → State) → Type 0
Writes f cs from = (d : Bytes) × ((m : Level) (os : List Outer) → landing f cs (from m os) ≡ between (with_attribute m d) os)

none_left : (f : EmptyElementHandling) (d : Bytes) (cs : List Call) → nothing_follows cs ≡ true → Writes f cs (λ m os. between (with_attribute m d) os)
none_left f d [] e = (d, λ m os. refl)
none_left f d (c ∷ cs) e = absurd (false≢true e)

module _ (f : EmptyElementHandling) (l : Level) (ls : List Outer) where
  -- one value: the attribute is complete, or its list goes on
  value_writes : (q : Quote) (v : Value) (cs : List Call) → completes (quote_plus q zero) (call_value v ∷ cs) ≡ true → There (step f (call_value v) (quote q l ls)) → Stepping f cs (next f (call_value v) (quote q l ls)) →
      ((p : Quote) → completes (quote_plus p zero) cs ≡ true → Stepping f cs (quote p l ls) → Writes f cs (quote p)) → Writes f (call_value v ∷ cs) (quote q)
  value_writes q v cs h t s rest = go (put_quote q v) refl (quote_fits q v)
    where
      onto : (k : Sort) (p : Quote) (z : Quoted) → QuoteFits k p z → counted k (quote_plus p zero) cs ≡ true → Stepping f cs (requoted l ls z) → Writes f cs (λ m os. requoted m os z)
      onto leaf (single k) (closed a) w c y = none_left f a cs c
      onto leaf (single k) (still z) w c y = absurd w
      onto leaf (several k s x) (closed a) w c y = absurd w
      onto leaf (several k s x) (still (single n)) w c y = absurd w
      onto leaf (several k s x) (still (several n u z)) w c y = rest (several n u z) c y
      onto wrapper p z w c y = absurd w
      onto opener (single k) (closed a) w c y = absurd w
      onto opener (single k) (still (single n)) w c y = absurd w
      onto opener (single k) (still (several n u z)) w c y = rest (several n u z) c y
      onto opener (several k s x) z w c y = absurd w

      go : (o : Option Quoted) → put_quote q v ≡ o → Whenever (QuoteFits (sort v) q) o → Writes f (call_value v ∷ cs) (quote q)
      go None e w = absurd (subst (λ (o : Option Quoted). There (requoted_if l ls o)) e t)
      go (Some z) e w =
          let y = subst (λ (o : Option Quoted). Stepping f cs (or_stay (quote q l ls) (requoted_if l ls o))) e s in
          let r = onto (sort v) q z w (sym (counted_is v (quote_plus q zero) cs) ∙ h) y in
          (r.0, λ m os. ap (λ (o : Option Quoted). landing f cs (or_stay (quote q m os) (requoted_if m os o))) e ∙ r.1 m os)

  quote_writes : (cs : List Call) (q : Quote) → completes (quote_plus q zero) cs ≡ true → Stepping f cs (quote q l ls) → Writes f cs (quote q)
  quote_writes [] q h t = absurd (false≢true h)
  quote_writes (call_open n ∷ cs) q h t = absurd (false≢true h)
  quote_writes (call_field k ∷ cs) q h t = absurd t.0
  quote_writes (call_value v ∷ cs) q h t = value_writes q v cs h t.0 t.1 (λ p a b. quote_writes cs p a b)
  quote_writes (call_end ∷ cs) (single k) h t = absurd t.0
  quote_writes (call_end ∷ cs) (several k v w) h t = none_left f (attribute k v) cs h
  quote_writes (call_finish ∷ cs) q h t = absurd (false≢true h)
  quote_writes (call_abandon ∷ cs) q h t = absurd (false≢true h)

  -- a whole '@' field, from its key on
  attribute_writes : (k : Bytes) (cs : List Call) → names_attribute k ≡ true → completes 0 cs ≡ true → Stepping f (call_field k ∷ cs) (between l ls) → Writes f (call_field k ∷ cs) between
  attribute_writes [] cs e h t = absurd (false≢true e)
  attribute_writes (b ∷ k) cs e h t =
      let q : key (b ∷ k) ≡ key_attribute k = ap (λ (x : Bool). cond x (key_attribute k) (cond (is_text_name (b ∷ k)) key_text (cond (is_value_name (b ∷ k)) key_value (key_element (b ∷ k))))) e in
      let r = quote_writes cs (single k) h (subst (λ (x : Key). Stepping f cs (field x l ls)) q t.1) in
      (r.0, λ m os. ap (λ (x : Key). landing f cs (field x m os)) q ∙ r.1 m os)

-- both orders lead to the same state
module _ (f : EmptyElementHandling) (x y : Field) (ex : names_attribute x.key ≡ true) (ey : names_attribute y.key ≡ false) where
  orders_meet : (st : State) → Stepping f (calls x ++ calls y) st → Stepping f (calls y ++ calls x) st → landing f (calls x ++ calls y) st ≡ landing f (calls y ++ calls x) st
  orders_meet idle s t = absurd s.0
  orders_meet (between l ls) s t =
      let w = attribute_writes f l ls x.key x.values ex x.whole (stepping_front f (calls x) (calls y) (between l ls) s) in
      let c = child_lands f l ls y.key y.values ey y.whole (stepping_front f (calls y) (calls x) (between l ls) t) in
      let one : landing f (calls x ++ calls y) (between l ls) ≡ between (lev l (l.attrs ++ w.0) c.0) ls = landing-++ f (calls x) (calls y) (between l ls) ∙ (ap (landing f (calls y)) (w.1 l ls) ∙ c.1 (l.attrs ++ w.0)) in
      let other : landing f (calls y ++ calls x) (between l ls) ≡ between (lev l (l.attrs ++ w.0) c.0) ls = landing-++ f (calls y) (calls x) (between l ls) ∙ (ap (landing f (calls x)) (c.1 l.attrs) ∙ w.1 (lev l l.attrs c.0) ls) in
      one ∙ sym other
  orders_meet (inside p rs l ls) s t = absurd s.0
  orders_meet (quote q l ls) s t = absurd s.0
  orders_meet (complete ms) s t = absurd s.0

-- no record is finished by the calls of a field
unfinished : (f : EmptyElementHandling) (cs : List Call) → nothing_follows cs ≡ true → (st : State) → documents f cs st ≡ []
unfinished f [] e st = refl
unfinished f (c ∷ cs) e st = absurd (false≢true e)

none_documents : (f : EmptyElementHandling) (cs : List Call) (d : ℕ) → completes d cs ≡ true → (st : State) → documents f cs st ≡ []
none_documents f [] d e st = refl
none_documents f (call_open n ∷ cs) d e st = absurd (false≢true e)
none_documents f (call_field k ∷ cs) zero e st = absurd (false≢true e)
none_documents f (call_field k ∷ cs) (suc d) e st = none_documents f cs (suc d) e (next f (call_field k) st)
none_documents f (call_value v ∷ cs) d e st = go (sort v) d (sym (counted_is v d cs) ∙ e) (λ n h. none_documents f cs n h (next f (call_value v) st))
  where
    go : (k : Sort) (n : ℕ) → counted k n cs ≡ true → ((m : ℕ) → completes m cs ≡ true → documents f cs (next f (call_value v) st) ≡ []) → documents f cs (next f (call_value v) st) ≡ []
    go leaf zero h r = unfinished f cs h (next f (call_value v) st)
    go leaf (suc n) h r = r (suc n) h
    go wrapper n h r = r n h
    go opener n h r = r (suc n) h
none_documents f (call_end ∷ cs) zero e st = absurd (false≢true e)
none_documents f (call_end ∷ cs) (suc zero) e st = unfinished f cs e (next f call_end st)
none_documents f (call_end ∷ cs) (suc (suc d)) e st = none_documents f cs (suc d) e (next f call_end st)
none_documents f (call_finish ∷ cs) d e st = absurd (false≢true e)
none_documents f (call_abandon ∷ cs) d e st = absurd (false≢true e)

documents-++ : (f : EmptyElementHandling) (xs ys : List Call) (st : State) → documents f (xs ++ ys) st ≡ documents f xs st ++ documents f ys (landing f xs st)
documents-++ f [] ys st = refl
documents-++ f (x ∷ xs) ys st =
    ap (λ z. document x st ++ z) (documents-++ f xs ys (next f x st)) ∙ sym (append_assoc (document x st) (documents f xs (next f x st)) (documents f ys (landing f xs (next f x st))))

fields_documents : (f : EmptyElementHandling) (x y : Field) (st : State) → documents f (calls x ++ calls y) st ≡ []
fields_documents f x y st =
    let p : documents f (calls x) st ≡ [] = none_documents f x.values 0 x.whole (next f (call_field x.key) st) in
    let q : documents f (calls y) (landing f (calls x) st) ≡ [] = none_documents f y.values 0 y.whole (next f (call_field y.key) (landing f (calls x) st)) in
    documents-++ f (calls x) (calls y) st ∙ (ap (λ z. z ++ documents f (calls y) (landing f (calls x) st)) p ∙ q)

-- one of the two runs, after its fields: they put nothing into the sink, and lead where their calls lead
module _ (w : Setting) (r : ℕ) (front : List Call) (x y : Field) (h : answers w (calls x ++ calls y) (run w front (new r)) ≡ all_accepted (calls x ++ calls y)) where
  abbrev met : Session
  met = run w front (new r)

  sink_kept : (run w (calls x ++ calls y) met).sink ≡ met.sink
  sink_kept =
      sink_layout w (calls x ++ calls y) met ∙ (ap (λ z. met.sink ++ layouts w.indentation (documents w.form (accepted_calls (calls x ++ calls y) z) met.model)) h ∙ (ap (λ z. met.sink ++ layouts w.indentation (documents w.form z met.model)) (all_calls (calls x ++ calls y)) ∙ (ap (λ z. met.sink ++ layouts w.indentation z) (fields_documents w.form x y met.model) ∙ append-nil met.sink)))

  model_led : (run w (calls x ++ calls y) met).model ≡ landing w.form (calls x ++ calls y) met.model
  model_led =
      run_lands w (calls x ++ calls y) met ∙ (ap (λ z. landing w.form (accepted_calls (calls x ++ calls y) z) met.model) h ∙ ap (λ z. landing w.form z met.model) (all_calls (calls x ++ calls y)))

whole_run : (w : Setting) (r : ℕ) (front fields rest : List Call) → run w (front ++ (fields ++ rest)) (new r) ≡ run w rest (run w (front ++ fields) (new r))
whole_run w r front fields rest = ap (λ z. run w z (new r)) (sym (append_assoc front fields rest)) ∙ run-++ w (front ++ fields) rest (new r)

pub attributes_change_places : AttributesChangePlaces
attributes_change_places f i m n r q front x y rest ex ey b =
    let v = writer f i m in
    let w = writer f i n in
    let s = run v front (new r) in
    let t = run w front (new q) in
    let a = agree_accepted front (answers v front (new r)) (answers w front (new q)) b.before_them in
    let es : s.sink ≡ t.sink = sink_layout v front (new r) ∙ (ap (λ z. layouts i (documents f z idle)) a ∙ sym (sink_layout w front (new q))) in
    let em : s.model ≡ t.model = run_lands v front (new r) ∙ (ap (λ z. landing f z idle) a ∙ sym (run_lands w front (new q))) in
    let xy = calls x ++ calls y in
    let yx = calls y ++ calls x in
    let p = run v (front ++ xy) (new r) in
    let o = run w (front ++ yx) (new q) in
    let ps : p.sink ≡ s.sink = ap (λ z. z.sink) (run-++ v front xy (new r)) ∙ sink_kept v r front x y b.one in
    let os : o.sink ≡ t.sink = ap (λ z. z.sink) (run-++ w front yx (new q)) ∙ sink_kept w q front y x b.other in
    let pm : p.model ≡ landing f xy s.model = ap (λ z. z.model) (run-++ v front xy (new r)) ∙ model_led v r front x y b.one in
    let om : o.model ≡ landing f yx t.model = ap (λ z. z.model) (run-++ w front yx (new q)) ∙ model_led w q front y x b.other in
    let sx = accepted_stepping v xy s b.one in
    let sy : Stepping f yx s.model = subst (Stepping f yx) (sym em) (accepted_stepping w yx t b.other) in
    let meet : p.model ≡ o.model = pm ∙ (orders_meet f x y ex ey s.model sx sy ∙ (ap (landing f yx) em ∙ sym om)) in
    let c = agree_accepted rest (answers v rest p) (answers w rest o) b.behind_them in
    let ends : (run v rest p).sink ≡ (run w rest o).sink = sink_layout v rest p ∙ (ap (λ z. z ++ layouts i (documents f (accepted_calls rest (answers v rest p)) p.model)) (ps ∙ (es ∙ sym os)) ∙ (ap (λ z. o.sink ++ layouts i (documents f z p.model)) c ∙ (ap (λ z. o.sink ++ layouts i (documents f (accepted_calls rest (answers w rest o)) z)) meet ∙ sym (sink_layout w rest o)))) in
    ap (λ z. z.sink) (whole_run v r front xy rest) ∙ (ends ∙ sym (ap (λ z. z.sink) (whole_run w q front yx rest)))
