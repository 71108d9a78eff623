-- How many frames a state takes, and how a call changes that.
use Rattle.std.proofs.Common.{◌≡◌, ℕ, suc, ◌+◌, ◌≤◌, Bool, true, false, List, [], ◌∷◌, ◌++◌, length, Some, None, Option, refl, subst, arith, length-append}
use Rattle.style.specs.declared.indentation.Indentation.{Indentation}
use Rattle.style.specs.declared.result.WriteResult.{WriteResult}
use Rattle.style.specs.declared.result.WriteResult.TheVariants.{Element as element_result, SensitiveText}
use Rattle.style.specs.declared.style.EmptyElementHandling.{EmptyElementHandling}
use Rattle.model.specs.Calls.{Value, val_text, val_none, val_variant, val_wrapped, val_row, val_variant_row, val_record, val_variant_record, Call, call_open, call_field, call_value, call_end, call_finish, call_abandon, Key, key_attribute, key_text, key_value, key_element, key}
use Rattle.model.specs.Model.{Level, Row, named_row, content_row, Outer, Spot, element, content, text_spot, simple, words, Quote, single, several, State, idle, between, inside, quote, complete, stack, start}
use Rattle.model.specs.Step.{Move, done, on, opens_row, opens_record, Quoted, closed, still, put, put_quote, settle, moved, moved_if, requoted, requoted_if, close, leave, field, step, with_body, with_tag, closed_record}
use Rattle.model.specs.Layout.{row_frame, row_frames, record_frame, outer_frames, spot_frames, quote_frames, frames, pending}
use Rattle.model.specs.Table.{value_opens, takes_frame}
use Rattle.model.proofs.Moves.{Whenever}
use Rattle.model.proofs.Weight.{Sort, leaf, wrapper, opener, sort, Fits, Listed, Unlisted, put_fits, QuoteFits, quote_fits}

abbrev pub weight : List Outer → ℕ
weight [] = 0
weight (o ∷ os) = suc (length o.rows + weight os)

abbrev spot_weight : Spot → ℕ
spot_weight (element u n) = 0
spot_weight (content p) = 0
spot_weight text_spot = 0
spot_weight simple = 0
spot_weight (words w) = 1

abbrev quote_weight : Quote → ℕ
quote_weight (single k) = 0
quote_weight (several k v w) = 1

-- the number of open things
abbrev pub count : State → ℕ
count idle = 0
count (between l ls) = suc (weight ls)
count (inside s rs l ls) = suc (weight ls + length rs + spot_weight s)
count (quote q l ls) = suc (weight ls + quote_weight q)
count (complete ms) = 0

length-rows : (rs : List Row) → length (row_frames rs) ≡ length rs
length-rows [] = refl
length-rows (r ∷ rs) = omega (arith, length-append (row_frames rs) (row_frame r ∷ []), length-rows rs)

length-outers : (i : Option Indentation) (ls : List Outer) → length (outer_frames i ls) ≡ weight ls
length-outers i [] = refl
length-outers i (o ∷ ls) =
    omega (arith, length-append (outer_frames i ls) (record_frame i o.level ls [] ∷ row_frames o.rows), length-outers i ls, length-rows o.rows)

length-spot : (s : Spot) → length (spot_frames s) ≡ spot_weight s
length-spot (element u n) = refl
length-spot (content p) = refl
length-spot text_spot = refl
length-spot simple = refl
length-spot (words w) = refl

length-quote : (q : Quote) → length (quote_frames q) ≡ quote_weight q
length-quote (single k) = refl
length-quote (several k v w) = refl

pub frames_count : (i : Option Indentation) (st : State) → length (frames i st) ≡ count st
frames_count i idle = refl
frames_count i (between l ls) = omega (arith, length-append (outer_frames i ls) (record_frame i l ls [] ∷ []), length-outers i ls)
frames_count i (inside s rs l ls) =
    omega (arith, length-append (outer_frames i ls) (record_frame i l ls [] ∷ (row_frames rs ++ spot_frames s)), length-append (row_frames rs) (spot_frames s), length-outers i ls, length-rows rs, length-spot s)
frames_count i (quote q l ls) = omega (arith, length-append (outer_frames i ls) (record_frame i l ls (pending q) ∷ quote_frames q), length-outers i ls, length-quote q)
frames_count i (complete ms) = refl

-- a call that takes a frame takes one, and no other takes any
abbrev pub Counts : Bool → ℕ → ℕ → Type 0
Counts true a b = b ≡ suc a
Counts false a b = b ≤ a

abbrev opens : Sort → Bool
opens leaf = false
opens wrapper = false
opens opener = true

opens_is : (v : Value) → opens (sort v) ≡ value_opens v
opens_is (val_text r s) = refl
opens_is val_none = refl
opens_is (val_variant r v) = refl
opens_is (val_wrapped v) = refl
opens_is val_row = refl
opens_is (val_variant_row v) = refl
opens_is (val_record n) = refl
opens_is (val_variant_record v) = refl

listed_weight : (s : Spot) → Listed s → spot_weight s ≡ 1
listed_weight (element u n) h = absurd h
listed_weight (content p) h = absurd h
listed_weight text_spot h = absurd h
listed_weight simple h = absurd h
listed_weight (words w) h = refl

unlisted_weight : (s : Spot) → Unlisted s → spot_weight s ≡ 0
unlisted_weight (element u n) h = refl
unlisted_weight (content p) h = refl
unlisted_weight text_spot h = refl
unlisted_weight simple h = refl
unlisted_weight (words w) h = absurd h

count_settle : (r : WriteResult) (rs : List Row) (l : Level) (ls : List Outer) → count (settle r rs l ls) ≡ suc (weight ls + length rs)
count_settle r [] l ls = omega arith
count_settle r (named_row u n g ∷ rs) l ls = omega arith
count_settle r (content_row t q g ∷ rs) l ls = omega arith

count_moved : (k : Sort) (s : Spot) (rs : List Row) (l : Level) (ls : List Outer) (m : Move) → Fits k s m → Counts (opens k) (suc (weight ls + length rs + spot_weight s)) (count (moved rs l ls m))
count_moved leaf s rs l ls (done r b) h = omega (arith, unlisted_weight s h, count_settle r rs (with_body l b) ls)
count_moved leaf s rs l ls (on z b) h = omega (arith, listed_weight s h.0, listed_weight z h.1)
count_moved leaf s rs l ls (opens_row r) h = absurd h
count_moved leaf s rs l ls (opens_record u n) h = absurd h
count_moved wrapper s rs l ls (done r b) h = absurd h
count_moved wrapper s rs l ls (on z b) h = omega (arith, unlisted_weight s h.0, unlisted_weight z h.1)
count_moved wrapper s rs l ls (opens_row r) h = absurd h
count_moved wrapper s rs l ls (opens_record u n) h = absurd h
count_moved opener s rs l ls (done r b) h = absurd h
count_moved opener s rs l ls (on z b) h = omega (arith, unlisted_weight s h.0, listed_weight z h.1)
count_moved opener s rs l ls (opens_row (named_row u n g)) h = omega (arith, unlisted_weight s h)
count_moved opener s rs l ls (opens_row (content_row t q g)) h = omega (arith, unlisted_weight s h)
count_moved opener s rs l ls (opens_record u n) h = omega (arith, unlisted_weight s h)

count_moved_if : (k : Sort) (s : Spot) (rs : List Row) (l : Level) (ls : List Outer) (o : Option Move) → Whenever (Fits k s) o → Whenever (λ n. Counts (opens k) (suc (weight ls + length rs + spot_weight s)) (count n)) (moved_if rs l ls o)
count_moved_if k s rs l ls None h = tt
count_moved_if k s rs l ls (Some m) h = count_moved k s rs l ls m h

count_requoted : (k : Sort) (q : Quote) (l : Level) (ls : List Outer) (z : Quoted) → QuoteFits k q z → Counts (opens k) (suc (weight ls + quote_weight q)) (count (requoted l ls z))
count_requoted leaf (single k) l ls (closed a) h = omega arith
count_requoted leaf (single k) l ls (still z) h = absurd h
count_requoted leaf (several k v w) l ls (closed a) h = absurd h
count_requoted leaf (several k v w) l ls (still (single n)) h = absurd h
count_requoted leaf (several k v w) l ls (still (several n x y)) h = omega arith
count_requoted wrapper q l ls z h = absurd h
count_requoted opener (single k) l ls (closed a) h = absurd h
count_requoted opener (single k) l ls (still (single n)) h = absurd h
count_requoted opener (single k) l ls (still (several n x y)) h = omega arith
count_requoted opener (several k v w) l ls z h = absurd h

count_requoted_if : (k : Sort) (q : Quote) (l : Level) (ls : List Outer) (o : Option Quoted) → Whenever (QuoteFits k q) o → Whenever (λ n. Counts (opens k) (suc (weight ls + quote_weight q)) (count n)) (requoted_if l ls o)
count_requoted_if k q l ls None h = tt
count_requoted_if k q l ls (Some z) h = count_requoted k q l ls z h

count_close : (f : EmptyElementHandling) (l : Level) (ls : List Outer) → count (close f l ls) ≤ suc (weight ls)
count_close f l [] = omega arith
count_close f l (o ∷ ls) = omega (arith, count_settle element_result o.rows (with_body o.level (with_tag o.level.body (closed_record f (length (o ∷ ls)) (start (o ∷ ls)) l))) ls)

count_leave : (s : Spot) (rs : List Row) (l : Level) (ls : List Outer) → Whenever (λ n. count n ≤ suc (weight ls + length rs + spot_weight s)) (leave s rs l ls)
count_leave (element u n) [] l ls = tt
count_leave (element u n) (named_row t m g ∷ rs) l ls = omega (arith, count_settle element_result rs l ls)
count_leave (element u n) (content_row t r g ∷ rs) l ls = tt
count_leave (content p) [] l ls = tt
count_leave (content p) (named_row t m g ∷ rs) l ls = tt
count_leave (content p) (content_row t r g ∷ rs) l ls = omega (arith, count_settle r rs l ls)
count_leave text_spot rs l ls = tt
count_leave simple rs l ls = tt
count_leave (words w) rs l ls = omega (arith, count_settle SensitiveText rs l ls)

count_field : (q : Key) (l : Level) (ls : List Outer) → count (field q l ls) ≤ suc (weight ls)
count_field (key_attribute k) l ls = omega arith
count_field key_text l ls = omega arith
count_field key_value l ls = omega arith
count_field (key_element n) l ls = omega arith

pub count_step : (f : EmptyElementHandling) (c : Call) (st : State) → Whenever (λ n. Counts (takes_frame c) (count st) (count n)) (step f c st)
count_step f (call_open n) idle = refl
count_step f (call_open n) (between l ls) = tt
count_step f (call_open n) (inside s rs l ls) = tt
count_step f (call_open n) (quote q l ls) = tt
count_step f (call_open n) (complete ms) = tt
count_step f (call_field k) idle = tt
count_step f (call_field k) (between l ls) = count_field (key k) l ls
count_step f (call_field k) (inside s rs l ls) = tt
count_step f (call_field k) (quote q l ls) = tt
count_step f (call_field k) (complete ms) = tt
count_step f (call_value v) idle = tt
count_step f (call_value v) (between l ls) = tt
count_step f (call_value v) (inside s rs l ls) =
    let o = put f (suc (length ls)) rs (stack rs l) l.body s v in
    subst (λ (t : Bool). Whenever (λ n. Counts t (suc (weight ls + length rs + spot_weight s)) (count n)) (moved_if rs l ls o)) (opens_is v) (count_moved_if (sort v) s rs l ls o (put_fits f (suc (length ls)) rs (stack rs l) l.body s v))
count_step f (call_value v) (quote q l ls) =
    subst (λ (t : Bool). Whenever (λ n. Counts t (suc (weight ls + quote_weight q)) (count n)) (requoted_if l ls (put_quote q v))) (opens_is v) (count_requoted_if (sort v) q l ls (put_quote q v) (quote_fits q v))
count_step f (call_value v) (complete ms) = tt
count_step f call_end idle = tt
count_step f call_end (between l ls) = count_close f l ls
count_step f call_end (inside s rs l ls) = count_leave s rs l ls
count_step f call_end (quote (single k) l ls) = tt
count_step f call_end (quote (several k v w) l ls) = omega arith
count_step f call_end (complete ms) = tt
count_step f call_finish idle = tt
count_step f call_finish (between l ls) = tt
count_step f call_finish (inside s rs l ls) = tt
count_step f call_finish (quote q l ls) = tt
count_step f call_finish (complete ms) = omega arith
count_step f call_abandon idle = tt
count_step f call_abandon (between l ls) = omega arith
count_step f call_abandon (inside s rs l ls) = omega arith
count_step f call_abandon (quote q l ls) = omega arith
count_step f call_abandon (complete ms) = omega arith
