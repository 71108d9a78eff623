-- A child field in the midst: the record that it stands in, with its attributes left open, and what is open above it.
use Rattle.std.proofs.Common.{◌≡◌, ℕ, zero, suc, Bool, true, not, List, [], ◌∷◌, ◌++◌, length, refl, ap}
use Rattle.style.specs.declared.result.WriteResult.{WriteResult}
use Rattle.style.specs.Results.{allows_indent}
use Rattle.reader.specs.Trees.{Bytes}
use Rattle.model.specs.Calls.{Call}
use Rattle.model.specs.Model.{Body, Level, Row, named_row, content_row, Outer, Spot, element, content, text_spot, simple, words, Quote, single, several, State, between, inside, quote, stack}
use Rattle.model.specs.Step.{Move, done, on, opens_row, opens_record, with_body, with_flag, settle, moved, new_level}
use Rattle.model.specs.Fields.{completes, nothing_follows}

-- the record of the field itself is innermost, with this body; or another record is, under the records os, in an item of these
-- rows of the field's record, whose body waits meanwhile
pub data Focus : Type 0 where
  base : Body → Focus
  above : Level → List Outer → List Row → Body → Focus

-- before a field, a value, or an attribute's value
pub data Midst : Type 0 where
  fieldy : Focus → Midst
  valued : Spot → List Row → Focus → Midst
  quoted : Quote → Focus → Midst

-- the field's record with these attributes
abbrev pub lev : Level → Bytes → Body → Level
lev l a b = record { under = l.under; name = l.name; attrs = a; body = b }

abbrev pub body : Focus → Body
body (base b) = b
body (above m os rs b) = m.body

abbrev pub set_body : Focus → Body → Focus
set_body (base b) c = base c
set_body (above m os rs b) c = above (with_body m c) os rs b

-- how much is open in the field
abbrev pub rows_plus : List Row → ℕ → ℕ
rows_plus [] n = n
rows_plus (r ∷ rs) n = suc (rows_plus rs n)

abbrev pub outers_plus : List Outer → ℕ → ℕ
outers_plus [] n = n
outers_plus (o ∷ os) n = rows_plus o.rows (suc (outers_plus os n))

abbrev pub depth : Focus → ℕ
depth (base b) = zero
depth (above m os rs b) = suc (outers_plus os (rows_plus rs zero))

abbrev pub spot_plus : Spot → ℕ → ℕ
spot_plus (element u n) d = d
spot_plus (content p) d = d
spot_plus text_spot d = d
spot_plus simple d = d
spot_plus (words w) d = suc d

abbrev pub quote_plus : Quote → ℕ → ℕ
quote_plus (single k) d = d
quote_plus (several k v w) d = suc d

-- what is left of the field's calls, by what has become of it: nothing, once its record is innermost and waits for the next field
abbrev pub Onward : Midst → List Call → Type 0
Onward (fieldy (base b)) cs = nothing_follows cs ≡ true
Onward (fieldy (above m os rs b)) cs = completes (depth (above m os rs b)) cs ≡ true
Onward (valued s rs g) cs = completes (spot_plus s (rows_plus rs (depth g))) cs ≡ true
Onward (quoted q (base b)) cs = ⊥
Onward (quoted q (above m os rs b)) cs = completes (quote_plus q (depth (above m os rs b))) cs ≡ true

-- a value is complete, with d things open around it
abbrev pub complete_at : ℕ → List Call → Bool
complete_at zero cs = nothing_follows cs
complete_at (suc d) cs = completes (suc d) cs

abbrev pub settled : WriteResult → List Row → Focus → Midst
settled r [] g = fieldy (set_body g (with_flag (body g) (allows_indent r)))
settled r (named_row u n h ∷ rs) g = valued (element u n) (named_row u n true ∷ rs) g
settled r (content_row t q h ∷ rs) g = valued (content (not (body g).wordy)) (content_row t r (allows_indent r) ∷ rs) g

pub onward_settled : (r : WriteResult) (rs : List Row) (g : Focus) (cs : List Call) → complete_at (rows_plus rs (depth g)) cs ≡ true → Onward (settled r rs g) cs
onward_settled r [] (base b) cs h = h
onward_settled r [] (above m os rs b) cs h = h
onward_settled r (named_row u n x ∷ rs) g cs h = h
onward_settled r (content_row t q x ∷ rs) g cs h = h

abbrev pub row_midst : Row → List Row → Focus → Midst
row_midst (named_row u n x) rs g = valued (element u n) (named_row u n x ∷ rs) g
row_midst (content_row t q x) rs g = valued (content (not (body g).wordy)) (content_row t q x ∷ rs) g

abbrev pub entered : Bytes → Bytes → List Row → Focus → Midst
entered u n rs (base b) = fieldy (above (new_level u n) [] rs b)
entered u n rs (above m os qs b) = fieldy (above (new_level u n) (record { level = m; rows = rs } ∷ os) qs b)

-- where a move leads
abbrev pub target : List Row → Focus → Move → Midst
target rs g (done r b) = settled r rs (set_body g b)
target rs g (on s b) = valued s rs (set_body g b)
target rs g (opens_row r) = row_midst r rs g
target rs g (opens_record u n) = entered u n rs g

module _ (l : Level) (ls : List Outer) where
  -- the innermost record, and the records around it, by the attributes of the field's record
  abbrev pub level : Focus → Bytes → Level
  level (base b) a = lev l a b
  level (above m os rs b) a = m

  abbrev pub outers : Focus → Bytes → List Outer
  outers (base b) a = ls
  outers (above m os rs b) a = os ++ (record { level = lev l a b; rows = rs } ∷ ls)

  abbrev pub state : Midst → Bytes → State
  state (fieldy g) a = between (level g a) (outers g a)
  state (valued s rs g) a = inside s rs (level g a) (outers g a)
  state (quoted q g) a = quote q (level g a) (outers g a)

  -- nothing but the tag of the field's record shows its attributes
  pub stack_same : (rs : List Row) (g : Focus) (a c : Bytes) → stack rs (level g a) ≡ stack rs (level g c)
  stack_same [] (base b) a c = refl
  stack_same [] (above m os qs b) a c = refl
  stack_same (named_row u n x ∷ rs) g a c = refl
  stack_same (content_row t q x ∷ rs) g a c = refl

  pub body_is : (g : Focus) (a : Bytes) → (level g a).body ≡ body g
  body_is (base b) a = refl
  body_is (above m os rs b) a = refl

  pub beneath_same : (os : List Outer) (rs : List Row) (b : Body) (a c : Bytes) → length (os ++ (record { level = lev l a b; rows = rs } ∷ ls)) ≡ length (os ++ (record { level = lev l c b; rows = rs } ∷ ls))
  beneath_same [] rs b a c = refl
  beneath_same (o ∷ os) rs b a c = ap suc (beneath_same os rs b a c)

  pub length-same : (g : Focus) (a c : Bytes) → length (outers g a) ≡ length (outers g c)
  length-same (base b) a c = refl
  length-same (above m os rs b) a c = beneath_same os rs b a c

  pub settle_is : (r : WriteResult) (rs : List Row) (g : Focus) (a : Bytes) → settle r rs (level g a) (outers g a) ≡ state (settled r rs g) a
  settle_is r [] (base b) a = refl
  settle_is r [] (above m os rs b) a = refl
  settle_is r (named_row u n x ∷ rs) g a = refl
  settle_is r (content_row t q x ∷ rs) (base b) a = refl
  settle_is r (content_row t q x ∷ rs) (above m os qs b) a = refl

  pub moved_is : (rs : List Row) (g : Focus) (m : Move) (a : Bytes) → moved rs (level g a) (outers g a) m ≡ state (target rs g m) a
  moved_is rs (base b) (done r c) a = settle_is r rs (base c) a
  moved_is rs (above m os qs b) (done r c) a = settle_is r rs (above (with_body m c) os qs b) a
  moved_is rs (base b) (on s c) a = refl
  moved_is rs (above m os qs b) (on s c) a = refl
  moved_is rs (base b) (opens_row (named_row u n x)) a = refl
  moved_is rs (above m os qs b) (opens_row (named_row u n x)) a = refl
  moved_is rs (base b) (opens_row (content_row t q x)) a = refl
  moved_is rs (above m os qs b) (opens_row (content_row t q x)) a = refl
  moved_is rs (base b) (opens_record u n) a = refl
  moved_is rs (above m os qs b) (opens_record u n) a = refl
