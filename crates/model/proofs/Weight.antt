-- What a value opens or completes agrees with how a field's calls are counted.
use Rattle.std.proofs.Common.{◌≡◌, ℕ, zero, suc, Bool, true, false, cond, List, ◌∷◌, refl}
use Rattle.style.specs.declared.style.EmptyElementHandling.{EmptyElementHandling}
use Rattle.reader.specs.Trees.{Bytes}
use Rattle.model.specs.Strings.{null}
use Rattle.model.specs.Calls.{Value, val_text, val_none, val_variant, val_wrapped, val_row, val_variant_row, val_record, val_variant_record, Call, call_value, call_end, is_text_name}
use Rattle.model.specs.Model.{Body, Row, named_row, content_row, Spot, element, content, text_spot, simple, words, Quote, single, several}
use Rattle.model.specs.Step.{Move, done, on, opens_row, opens_record, Quoted, closed, still, put, put_quote}
use Rattle.model.specs.Fields.{completes}
use Rattle.model.proofs.Moves.{Whenever}
use Rattle.model.proofs.Focus.{Focus, base, above, depth, set_body, rows_plus, spot_plus, complete_at, Onward, target, onward_settled}

-- a value by itself, one that wants one more value, one that opens something
pub data Sort : Type 0 where
  leaf : Sort
  wrapper : Sort
  opener : Sort

abbrev pub sort : Value → Sort
sort (val_text r s) = leaf
sort val_none = leaf
sort (val_variant r v) = leaf
sort (val_wrapped v) = wrapper
sort val_row = opener
sort (val_variant_row v) = opener
sort (val_record n) = opener
sort (val_variant_record v) = opener

-- the calls behind a value of this sort complete the field
abbrev pub counted : Sort → ℕ → List Call → Bool
counted leaf d cs = complete_at d cs
counted wrapper d cs = completes d cs
counted opener d cs = completes (suc d) cs

pub counted_is : (v : Value) (d : ℕ) (cs : List Call) → completes d (call_value v ∷ cs) ≡ counted (sort v) d cs
counted_is (val_text r s) zero cs = refl
counted_is (val_text r s) (suc d) cs = refl
counted_is val_none zero cs = refl
counted_is val_none (suc d) cs = refl
counted_is (val_variant r v) zero cs = refl
counted_is (val_variant r v) (suc d) cs = refl
counted_is (val_wrapped v) d cs = refl
counted_is val_row d cs = refl
counted_is (val_variant_row v) d cs = refl
counted_is (val_record n) d cs = refl
counted_is (val_variant_record v) d cs = refl

pub ended_is : (d : ℕ) (cs : List Call) → completes (suc d) (call_end ∷ cs) ≡ complete_at d cs
ended_is zero cs = refl
ended_is (suc d) cs = refl

-- the spot is that of a list, or not
abbrev pub Listed : Spot → Type 0
Listed (element u n) = ⊥
Listed (content p) = ⊥
Listed text_spot = ⊥
Listed simple = ⊥
Listed (words w) = Unit {0}

abbrev pub Unlisted : Spot → Type 0
Unlisted (element u n) = Unit {0}
Unlisted (content p) = Unit {0}
Unlisted text_spot = Unit {0}
Unlisted simple = Unit {0}
Unlisted (words w) = ⊥

listed_plus : (s : Spot) (d : ℕ) → Listed s → spot_plus s d ≡ suc d
listed_plus (element u n) d h = absurd h
listed_plus (content p) d h = absurd h
listed_plus text_spot d h = absurd h
listed_plus simple d h = absurd h
listed_plus (words w) d h = refl

unlisted_plus : (s : Spot) (d : ℕ) → Unlisted s → spot_plus s d ≡ d
unlisted_plus (element u n) d h = refl
unlisted_plus (content p) d h = refl
unlisted_plus text_spot d h = refl
unlisted_plus simple d h = refl
unlisted_plus (words w) d h = absurd h

-- what a value of this sort can do at this spot
abbrev pub Fits : Sort → Spot → Move → Type 0
Fits leaf s (done r b) = Unlisted s
Fits leaf s (on z b) = Listed s × Listed z
Fits leaf s (opens_row r) = ⊥
Fits leaf s (opens_record u n) = ⊥
Fits wrapper s (done r b) = ⊥
Fits wrapper s (on z b) = Unlisted s × Unlisted z
Fits wrapper s (opens_row r) = ⊥
Fits wrapper s (opens_record u n) = ⊥
Fits opener s (done r b) = ⊥
Fits opener s (on z b) = Unlisted s × Listed z
Fits opener s (opens_row r) = Unlisted s
Fits opener s (opens_record u n) = Unlisted s

either : (k : Sort) (s : Spot) (t : Bool) (m n : Move) → Fits k s m → Fits k s n → Fits k s (cond t m n)
either k s true m n p q = p
either k s false m n p q = q

module _ (f : EmptyElementHandling) (d : ℕ) (rs : List Row) (t : Bytes) (b : Body) where
  pub put_fits : (s : Spot) (v : Value) → Whenever (Fits (sort v) s) (put f d rs t b s v)
  put_fits (element u n) (val_text r s) = either leaf (element u n) (null s) _ _ tt tt
  put_fits (element u n) val_none = tt
  put_fits (element u n) (val_variant r v) = either leaf (element u n) (is_text_name v) _ _ tt tt
  put_fits (element u n) (val_wrapped v) = tt
  put_fits (element u n) val_row = tt
  put_fits (element u n) (val_variant_row v) = tt
  put_fits (element u n) (val_record m) = tt
  put_fits (element u n) (val_variant_record v) = tt
  put_fits (content p) (val_text r s) = tt
  put_fits (content p) val_none = tt
  put_fits (content p) (val_variant r v) = either leaf (content p) (is_text_name v) _ _ tt tt
  put_fits (content p) (val_wrapped v) = either wrapper (content p) (is_text_name v) (on simple b) (on (element t v) b) (tt, tt) (tt, tt)
  put_fits (content p) val_row = tt
  put_fits (content p) (val_variant_row v) = either opener (content p) (is_text_name v) (on (words false) b) _ (tt, tt) tt
  put_fits (content p) (val_record m) = tt
  put_fits (content p) (val_variant_record v) = tt
  put_fits text_spot (val_text r s) = tt
  put_fits text_spot val_none = tt
  put_fits text_spot (val_variant r v) = tt
  put_fits text_spot (val_wrapped v) = tt
  put_fits text_spot val_row = (tt, tt)
  put_fits text_spot (val_variant_row v) = tt
  put_fits text_spot (val_record m) = tt
  put_fits text_spot (val_variant_record v) = tt
  put_fits simple (val_text r s) = tt
  put_fits simple val_none = tt
  put_fits simple (val_variant r v) = tt
  put_fits simple (val_wrapped v) = tt
  put_fits simple val_row = (tt, tt)
  put_fits simple (val_variant_row v) = tt
  put_fits simple (val_record m) = tt
  put_fits simple (val_variant_record v) = tt
  put_fits (words w) (val_text r s) = either leaf (words w) (null s) (on (words w) b) _ (tt, tt) (tt, tt)
  put_fits (words w) val_none = tt
  put_fits (words w) (val_variant r v) = either leaf (words w) (null v) (on (words w) b) _ (tt, tt) (tt, tt)
  put_fits (words w) (val_wrapped v) = tt
  put_fits (words w) val_row = tt
  put_fits (words w) (val_variant_row v) = tt
  put_fits (words w) (val_record m) = tt
  put_fits (words w) (val_variant_record v) = tt

depth_set : (g : Focus) (b : Body) → depth (set_body g b) ≡ depth g
depth_set (base c) b = refl
depth_set (above m os rs c) b = refl

-- a move counts as its value does
pub onward_move : (k : Sort) (s : Spot) (rs : List Row) (g : Focus) (m : Move) (cs : List Call) → Fits k s m → counted k (spot_plus s (rows_plus rs (depth g))) cs ≡ true → Onward (target rs g m) cs
onward_move leaf s rs g (done r b) cs t h = onward_settled r rs (set_body g b) cs (rw (depth_set g b) (rw (unlisted_plus s (rows_plus rs (depth g)) t) at h))
onward_move leaf s rs g (on z b) cs t h = rw (listed_plus z (rows_plus rs (depth (set_body g b))) t.1, depth_set g b) (rw (listed_plus s (rows_plus rs (depth g)) t.0) at h)
onward_move leaf s rs g (opens_row r) cs t h = absurd t
onward_move leaf s rs g (opens_record u n) cs t h = absurd t
onward_move wrapper s rs g (done r b) cs t h = absurd t
onward_move wrapper s rs g (on z b) cs t h = rw (unlisted_plus z (rows_plus rs (depth (set_body g b))) t.1, depth_set g b) (rw (unlisted_plus s (rows_plus rs (depth g)) t.0) at h)
onward_move wrapper s rs g (opens_row r) cs t h = absurd t
onward_move wrapper s rs g (opens_record u n) cs t h = absurd t
onward_move opener s rs g (done r b) cs t h = absurd t
onward_move opener s rs g (on z b) cs t h = rw (listed_plus z (rows_plus rs (depth (set_body g b))) t.1, depth_set g b) (rw (unlisted_plus s (rows_plus rs (depth g)) t.0) at h)
onward_move opener s rs g (opens_row (named_row u n x)) cs t h = rw (unlisted_plus s (rows_plus rs (depth g)) t) at h
onward_move opener s rs g (opens_row (content_row u q x)) cs t h = rw (unlisted_plus s (rows_plus rs (depth g)) t) at h
onward_move opener s rs (base b) (opens_record u n) cs t h = rw (unlisted_plus s (rows_plus rs (depth (base b))) t) at h
onward_move opener s rs (above m os qs b) (opens_record u n) cs t h = rw (unlisted_plus s (rows_plus rs (depth (above m os qs b))) t) at h

-- the same for an attribute's value
abbrev pub QuoteFits : Sort → Quote → Quoted → Type 0
QuoteFits leaf (single k) (closed a) = Unit {0}
QuoteFits leaf (single k) (still q) = ⊥
QuoteFits leaf (several k v w) (closed a) = ⊥
QuoteFits leaf (several k v w) (still (single n)) = ⊥
QuoteFits leaf (several k v w) (still (several n x y)) = Unit {0}
QuoteFits wrapper q z = ⊥
QuoteFits opener (single k) (closed a) = ⊥
QuoteFits opener (single k) (still (single n)) = ⊥
QuoteFits opener (single k) (still (several n x y)) = Unit {0}
QuoteFits opener (several k v w) z = ⊥

either_quoted : (k : Sort) (s : Quote) (t : Bool) (m n : Quoted) → QuoteFits k s m → QuoteFits k s n → QuoteFits k s (cond t m n)
either_quoted k s true m n p q = p
either_quoted k s false m n p q = q

pub quote_fits : (q : Quote) (v : Value) → Whenever (QuoteFits (sort v) q) (put_quote q v)
quote_fits (single k) (val_text r s) = tt
quote_fits (single k) val_none = tt
quote_fits (single k) (val_variant r v) = tt
quote_fits (single k) (val_wrapped v) = tt
quote_fits (single k) val_row = tt
quote_fits (single k) (val_variant_row v) = tt
quote_fits (single k) (val_record m) = tt
quote_fits (single k) (val_variant_record v) = tt
quote_fits (several k x w) (val_text r s) = either_quoted leaf (several k x w) (null s) _ _ tt tt
quote_fits (several k x w) val_none = tt
quote_fits (several k x w) (val_variant r v) = either_quoted leaf (several k x w) (null v) _ _ tt tt
quote_fits (several k x w) (val_wrapped v) = tt
quote_fits (several k x w) val_row = tt
quote_fits (several k x w) (val_variant_row v) = tt
quote_fits (several k x w) (val_record m) = tt
quote_fits (several k x w) (val_variant_record v) = tt
