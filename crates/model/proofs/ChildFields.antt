-- A child field changes only the body of its record, and does not look at the record's attributes.
use Rattle.std.proofs.Common.{◌≡◌, ℕ, zero, suc, Bool, true, false, cond, eqb, List, [], ◌∷◌, length, Some, None, Option, sym, refl, ap, ◌∙◌, subst}
use Rattle.std.proofs.lemmas.Bool.{true≢false, false≢true}
use Rattle.style.specs.declared.result.WriteResult.TheVariants.{Element as element_result, SensitiveText}
use Rattle.style.specs.declared.style.EmptyElementHandling.{EmptyElementHandling}
use Rattle.reader.specs.Trees.{Bytes}
use Rattle.model.specs.Calls.{Value, Call, call_open, call_field, call_value, call_end, call_finish, call_abandon, Key, key_attribute, key_text, key_value, key_element, key, is_text_name, is_value_name}
use Rattle.model.specs.Model.{Body, Level, Row, named_row, content_row, Outer, Spot, element, content, text_spot, simple, words, Quote, single, several, between, inside, stack, child_start}
use Rattle.model.specs.Step.{Move, Quoted, closed, still, put, put_quote, moved_if, requoted, requoted_if, attribute, with_attribute, with_body, with_tag, settle, closed_record, field, step}
use Rattle.model.specs.Table.{next, or_stay}
use Rattle.model.specs.Fields.{completes, names_attribute}
use Rattle.model.proofs.Moves.{There, Whenever}
use Rattle.model.proofs.Landing.{landing, Stepping}
use Rattle.model.proofs.Focus.{Focus, base, above, Midst, fieldy, valued, quoted, lev, body, depth, rows_plus, spot_plus, quote_plus, Onward, settled, onward_settled, target, level, outers, state, stack_same, body_is, beneath_same, length-same, settle_is, moved_is}
use Rattle.model.proofs.Weight.{sort, counted, counted_is, ended_is, Fits, put_fits, onward_move, QuoteFits, quote_fits, Sort, leaf, wrapper, opener}

-- one call of the field: it leads to the same midst whatever the attributes are
record Leads (f : EmptyElementHandling) (l : Level) (ls : List Outer) (x : Midst) (c : Call) (cs : List Call) : Type 0 where
  to : Midst
  onward : Onward to cs
  leads : (a : Bytes) → next f c (state l ls x a) ≡ state l ls to a

module _ (f : EmptyElementHandling) (l : Level) (ls : List Outer) (a₀ : Bytes) where
  value_leads : (s : Spot) (rs : List Row) (g : Focus) (v : Value) (cs : List Call) → completes (spot_plus s (rows_plus rs (depth g))) (call_value v ∷ cs) ≡ true → There (step f (call_value v) (state l ls (valued s rs g) a₀)) → Leads f l ls (valued s rs g) (call_value v) cs
  value_leads s rs g v cs h t =
      go (put f (suc n) rs k (body g) s v) same (put_fits f (suc n) rs k (body g) s v) (subst (λ (o : Option Move). There (moved_if rs (level l ls g a₀) (outers l ls g a₀) o)) (same a₀) t)
    where
      n : ℕ
      n = length (outers l ls g a₀)

      k : Bytes
      k = stack rs (level l ls g a₀)

      same : (a : Bytes) → put f (suc (length (outers l ls g a))) rs (stack rs (level l ls g a)) (level l ls g a).body s v ≡ put f (suc n) rs k (body g) s v
      same a =
          ap (λ (x : ℕ). put f (suc x) rs (stack rs (level l ls g a)) (level l ls g a).body s v) (length-same l ls g a a₀) ∙ (ap (λ (x : Bytes). put f (suc n) rs x (level l ls g a).body s v) (stack_same l ls rs g a a₀) ∙ ap (λ (x : Body). put f (suc n) rs k x s v) (body_is l ls g a))

      go : (o : Option Move) → ((a : Bytes) → put f (suc (length (outers l ls g a))) rs (stack rs (level l ls g a)) (level l ls g a).body s v ≡ o) → Whenever (Fits (sort v) s) o → There (moved_if rs (level l ls g a₀) (outers l ls g a₀) o) → Leads f l ls (valued s rs g) (call_value v) cs
      go None e w y = absurd y
      go (Some m) e w y =
          record { to = target rs g m; onward = onward_move (sort v) s rs g m cs w (sym (counted_is v (spot_plus s (rows_plus rs (depth g))) cs) ∙ h); leads = λ a. ap (λ (o : Option Move). or_stay (state l ls (valued s rs g) a) (moved_if rs (level l ls g a) (outers l ls g a) o)) (e a) ∙ moved_is l ls rs g m a }

  -- the end of a row or a list
  leave_leads : (s : Spot) (rs : List Row) (g : Focus) (cs : List Call) → completes (spot_plus s (rows_plus rs (depth g))) (call_end ∷ cs) ≡ true → There (step f call_end (state l ls (valued s rs g) a₀)) → Leads f l ls (valued s rs g) call_end cs
  leave_leads (element u n) [] g cs h t = absurd t
  leave_leads (element u n) (named_row p m x ∷ rs) g cs h t =
      record { to = settled element_result rs g; onward = onward_settled element_result rs g cs (sym (ended_is (rows_plus rs (depth g)) cs) ∙ h); leads = λ a. settle_is l ls element_result rs g a }
  leave_leads (element u n) (content_row p r x ∷ rs) g cs h t = absurd t
  leave_leads (content q) [] g cs h t = absurd t
  leave_leads (content q) (named_row p m x ∷ rs) g cs h t = absurd t
  leave_leads (content q) (content_row p r x ∷ rs) g cs h t =
      record { to = settled r rs g; onward = onward_settled r rs g cs (sym (ended_is (rows_plus rs (depth g)) cs) ∙ h); leads = λ a. settle_is l ls r rs g a }
  leave_leads text_spot rs g cs h t = absurd t
  leave_leads simple rs g cs h t = absurd t
  leave_leads (words w) rs g cs h t =
      record { to = settled SensitiveText rs g; onward = onward_settled SensitiveText rs g cs (sym (ended_is (rows_plus rs (depth g)) cs) ∙ h); leads = λ a. settle_is l ls SensitiveText rs g a }

  -- the end of a record inside the field
  close_leads : (m : Level) (os : List Outer) (rs : List Row) (b : Body) (cs : List Call) → completes (depth (above m os rs b)) (call_end ∷ cs) ≡ true → Leads f l ls (fieldy (above m os rs b)) call_end cs
  close_leads m [] rs b cs h =
      let d = suc (length ls) in
      let g = base (with_tag b (closed_record f d (child_start rs b d) m)) in
      record { to = settled element_result rs g; onward = onward_settled element_result rs g cs (sym (ended_is (rows_plus rs zero) cs) ∙ h); leads = λ a. settle_is l ls element_result rs g a }
  close_leads m (o ∷ os) rs b cs h =
      let closed_in : ℕ → Level = λ (n : ℕ). with_body o.level (with_tag o.level.body (closed_record f (suc n) (child_start o.rows o.level.body (suc n)) m)) in
      let n = length (outers l ls (above m os rs b) a₀) in
      let g = above (closed_in n) os rs b in
      record { to = settled element_result o.rows g; onward = onward_settled element_result o.rows g cs (sym (ended_is (rows_plus o.rows (depth g)) cs) ∙ h); leads = λ a. ap (λ (y : ℕ). settle element_result o.rows (closed_in y) (outers l ls (above m os rs b) a)) (beneath_same l ls os rs b a a₀) ∙ settle_is l ls element_result o.rows g a }

  -- a field of a record inside the field
  field_leads : (m : Level) (os : List Outer) (rs : List Row) (b : Body) (k : Bytes) (cs : List Call) → completes (depth (above m os rs b)) (call_field k ∷ cs) ≡ true → Leads f l ls (fieldy (above m os rs b)) (call_field k) cs
  field_leads m os rs b k cs h = go (key k) refl
    where
      go : (q : Key) → key k ≡ q → Leads f l ls (fieldy (above m os rs b)) (call_field k) cs
      go (key_attribute n) e = record { to = quoted (single n) (above m os rs b); onward = h; leads = λ a. ap (λ (y : Key). field y m (outers l ls (above m os rs b) a)) e }
      go key_text e = record { to = valued text_spot [] (above m os rs b); onward = h; leads = λ a. ap (λ (y : Key). field y m (outers l ls (above m os rs b) a)) e }
      go key_value e = record { to = valued (content true) [] (above m os rs b); onward = h; leads = λ a. ap (λ (y : Key). field y m (outers l ls (above m os rs b) a)) e }
      go (key_element n) e = record { to = valued (element (stack [] m) n) [] (above m os rs b); onward = h; leads = λ a. ap (λ (y : Key). field y m (outers l ls (above m os rs b) a)) e }

  -- an attribute of a record inside the field
  quote_leads : (q : Quote) (m : Level) (os : List Outer) (rs : List Row) (b : Body) (v : Value) (cs : List Call) → completes (quote_plus q (depth (above m os rs b))) (call_value v ∷ cs) ≡ true → There (step f (call_value v) (state l ls (quoted q (above m os rs b)) a₀)) → Leads f l ls (quoted q (above m os rs b)) (call_value v) cs
  quote_leads q m os rs b v cs h t = go (put_quote q v) refl (quote_fits q v) t
    where
      onto : (k : Sort) (p : Quote) (z : Quoted) → QuoteFits k p z → counted k (quote_plus p (depth (above m os rs b))) cs ≡ true →
          (y : Midst) × Onward y cs × ((a : Bytes) → requoted m (outers l ls (above m os rs b) a) z ≡ state l ls y a)
      onto leaf (single k) (closed a) w c = (fieldy (above (with_attribute m a) os rs b), c, λ x. refl)
      onto leaf (single k) (still z) w c = absurd w
      onto leaf (several k s x) (closed a) w c = absurd w
      onto leaf (several k s x) (still (single n)) w c = absurd w
      onto leaf (several k s x) (still (several n y z)) w c = (quoted (several n y z) (above m os rs b), c, λ a. refl)
      onto wrapper p z w c = absurd w
      onto opener (single k) (closed a) w c = absurd w
      onto opener (single k) (still (single n)) w c = absurd w
      onto opener (single k) (still (several n y z)) w c = (quoted (several n y z) (above m os rs b), c, λ a. refl)
      onto opener (several k s x) z w c = absurd w

      go : (o : Option Quoted) → put_quote q v ≡ o → Whenever (QuoteFits (sort v) q) o → There (requoted_if m (outers l ls (above m os rs b) a₀) (put_quote q v)) → Leads f l ls (quoted q (above m os rs b)) (call_value v) cs
      go None e w y = absurd (subst (λ (o : Option Quoted). There (requoted_if m (outers l ls (above m os rs b) a₀) o)) e y)
      go (Some z) e w y =
          let r = onto (sort v) q z w (sym (counted_is v (quote_plus q (depth (above m os rs b))) cs) ∙ h) in
          record { to = r.0; onward = r.1; leads = λ a. ap (λ (o : Option Quoted). or_stay (state l ls (quoted q (above m os rs b)) a) (requoted_if m (outers l ls (above m os rs b) a) o)) e ∙ r.2 a }

  unquote_leads : (q : Quote) (m : Level) (os : List Outer) (rs : List Row) (b : Body) (cs : List Call) → completes (quote_plus q (depth (above m os rs b))) (call_end ∷ cs) ≡ true → There (step f call_end (state l ls (quoted q (above m os rs b)) a₀)) → Leads f l ls (quoted q (above m os rs b)) call_end cs
  unquote_leads (single k) m os rs b cs h t = absurd t
  unquote_leads (several k v w) m os rs b cs h t =
      record { to = fieldy (above (with_attribute m (attribute k v)) os rs b); onward = h; leads = λ a. refl }

  -- a field in its midst
  abbrev Open : Midst → Type 0
  Open (fieldy (base b)) = ⊥
  Open (fieldy (above m os rs b)) = Unit {0}
  Open (valued s rs g) = Unit {0}
  Open (quoted q (base b)) = ⊥
  Open (quoted q (above m os rs b)) = Unit {0}

  one_leads : (x : Midst) (c : Call) (cs : List Call) → Open x → Onward x (c ∷ cs) → There (step f c (state l ls x a₀)) → Leads f l ls x c cs
  one_leads (fieldy (base b)) c cs o h t = absurd o
  one_leads (fieldy (above m os rs b)) (call_open n) cs o h t = absurd t
  one_leads (fieldy (above m os rs b)) (call_field k) cs o h t = field_leads m os rs b k cs h
  one_leads (fieldy (above m os rs b)) (call_value v) cs o h t = absurd t
  one_leads (fieldy (above m os rs b)) call_end cs o h t = close_leads m os rs b cs h
  one_leads (fieldy (above m os rs b)) call_finish cs o h t = absurd t
  one_leads (fieldy (above m os rs b)) call_abandon cs o h t = absurd (false≢true h)
  one_leads (valued s rs g) (call_open n) cs o h t = absurd t
  one_leads (valued s rs g) (call_field k) cs o h t = absurd t
  one_leads (valued s rs g) (call_value v) cs o h t = value_leads s rs g v cs h t
  one_leads (valued s rs g) call_end cs o h t = leave_leads s rs g cs h t
  one_leads (valued s rs g) call_finish cs o h t = absurd t
  one_leads (valued s rs g) call_abandon cs o h t = absurd (false≢true h)
  one_leads (quoted q (base b)) c cs o h t = absurd o
  one_leads (quoted q (above m os rs b)) (call_open n) cs o h t = absurd t
  one_leads (quoted q (above m os rs b)) (call_field k) cs o h t = absurd t
  one_leads (quoted q (above m os rs b)) (call_value v) cs o h t = quote_leads q m os rs b v cs h t
  one_leads (quoted q (above m os rs b)) call_end cs o h t = unquote_leads q m os rs b cs h t
  one_leads (quoted q (above m os rs b)) call_finish cs o h t = absurd t
  one_leads (quoted q (above m os rs b)) call_abandon cs o h t = absurd (false≢true h)

  -- the field's calls change the body of its record, the same whatever the attributes are
  abbrev Changes : List Call → Midst → Type 0
  Changes cs x = (b : Body) × ((a : Bytes) → landing f cs (state l ls x a) ≡ between (lev l a b) ls)

  on_from : (c : Call) (cs : List Call) (x : Midst) → Open x → Onward x (c ∷ cs) → Stepping f (c ∷ cs) (state l ls x a₀) → ((y : Midst) → Onward y cs → Stepping f cs (state l ls y a₀) → Changes cs y) → Changes (c ∷ cs) x
  on_from c cs x o h t rest =
      let s = one_leads x c cs o h t.0 in
      let r = rest s.to s.onward (subst (Stepping f cs) (s.leads a₀) t.1) in
      (r.0, λ a. ap (landing f cs) (s.leads a) ∙ r.1 a)

  changes : (cs : List Call) (x : Midst) → Onward x cs → Stepping f cs (state l ls x a₀) → Changes cs x
  changes [] (fieldy (base b)) h t = (b, λ a. refl)
  changes [] (fieldy (above m os rs b)) h t = absurd (false≢true h)
  changes [] (valued s rs g) h t = absurd (false≢true h)
  changes [] (quoted q (base b)) h t = absurd h
  changes [] (quoted q (above m os rs b)) h t = absurd (false≢true h)
  changes (c ∷ cs) (fieldy (base b)) h t = absurd (false≢true h)
  changes (c ∷ cs) (fieldy (above m os rs b)) h t = on_from c cs (fieldy (above m os rs b)) tt h t (λ y p q. changes cs y p q)
  changes (c ∷ cs) (valued s rs g) h t = on_from c cs (valued s rs g) tt h t (λ y p q. changes cs y p q)
  changes (c ∷ cs) (quoted q (base b)) h t = absurd h
  changes (c ∷ cs) (quoted q (above m os rs b)) h t = on_from c cs (quoted q (above m os rs b)) tt h t (λ y p q. changes cs y p q)

-- a key that does not begin with '@' leads to a value of the record itself
child_spot : (l : Level) (ls : List Outer) (k : Bytes) → names_attribute k ≡ false → (s : Spot) × (spot_plus s zero ≡ zero) × ((a : Bytes) → field (key k) (lev l a l.body) ls ≡ inside s [] (lev l a l.body) ls)
child_spot l ls [] e = (element (stack [] l) [], refl, λ a. refl)
child_spot l ls (c ∷ cs) e = go (eqb c 64) (is_text_name (c ∷ cs)) (is_value_name (c ∷ cs)) e
  where
    go : (t u v : Bool) → t ≡ false → (s : Spot) × (spot_plus s zero ≡ zero) × ((a : Bytes) → field (cond t (key_attribute cs) (cond u key_text (cond v key_value (key_element (c ∷ cs))))) (lev l a l.body) ls ≡ inside s [] (lev l a l.body) ls)
    go true u v e = absurd (true≢false e)
    go false true v e = (text_spot, refl, λ a. refl)
    go false false true e = (content true, refl, λ a. refl)
    go false false false e = (element (stack [] l) (c ∷ cs), refl, λ a. refl)

-- a whole child field, from its key on
pub child_lands : (f : EmptyElementHandling) (l : Level) (ls : List Outer) (k : Bytes) (cs : List Call) → names_attribute k ≡ false → completes 0 cs ≡ true → Stepping f (call_field k ∷ cs) (between l ls) →
    (b : Body) × ((a : Bytes) → landing f (call_field k ∷ cs) (between (lev l a l.body) ls) ≡ between (lev l a b) ls)
child_lands f l ls k cs e h t =
    let s = child_spot l ls k e in
    let o : completes (spot_plus s.0 zero) cs ≡ true = ap (λ (d : ℕ). completes d cs) s.1 ∙ h in
    let r = changes f l ls l.attrs cs (valued s.0 [] (base l.body)) o (subst (Stepping f cs) (s.2 l.attrs) t.1) in
    (r.0, λ a. ap (landing f cs) (s.2 a) ∙ r.1 a)
