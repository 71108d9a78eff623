-- Each accepted call writes an indent exactly where one is due, and leaves the flag that its child's result asks for.
use Rattle.std.proofs.Common.{◌≡◌, ℕ, suc, ◌≤◌, Bool, true, false, cond, not, ◌&&◌, ◌⊎◌, inl, inr, List, [], ◌∷◌, ◌++◌, length, Some, None, codes, Option, sym, refl, ap, ◌∙◌, subst, append_assoc, arith}
use Rattle.std.proofs.lemmas.Bool.{false≢true}
use Rattle.std.proofs.lemmas.List.{append-nil, map-append}
use Rattle.refusal.specs.declared.Refusal.{Refusal}
use Rattle.style.specs.declared.result.WriteResult.{WriteResult}
use Rattle.style.specs.declared.result.WriteResult.TheVariants.{Text, Element, Nothing, SensitiveText, SensitiveNothing}
use Rattle.style.specs.declared.style.EmptyElementHandling.{EmptyElementHandling}
use Rattle.style.specs.Results.{allows_indent}
use Rattle.xml.specs.declared.escape.Use.TheVariants.{Text as text_use, TextItem as text_item_use}
use Rattle.xml.specs.Escaping.{escaped}
use Rattle.reader.specs.Trees.{Bytes}
use Rattle.model.specs.Strings.{null}
use Rattle.model.specs.Calls.{Value, val_text, val_none, val_variant, val_wrapped, val_row, val_variant_row, val_record, val_variant_record, Call, call_open, call_field, call_value, call_end, call_finish, call_abandon, Key, key_attribute, key_text, key_value, key_element, key, is_text_name}
use Rattle.model.specs.Marks.{Mark, tag_byte, tagged, texted, less_than, shut, empty_element, text_element}
use Rattle.model.specs.Model.{Body, Level, Row, named_row, content_row, Outer, Spot, element, content, text_spot, simple, words, Quote, single, several, State, idle, between, inside, quote, complete, stack, flag, start, child_start}
use Rattle.model.specs.Step.{Move, done, on, opens_row, opens_record, Quoted, closed, still, gap, item, empty_child, text_child, put_element, put_content, put_text, put_simple, put_word, put, put_quote, attribute, new_level, settle, moved_if, row_state, requoted_if, close, closed_record, leave, leave_quote, field, step, with_body, with_flag, with_attribute, with_text, no_kids, end_tag}
use Rattle.model.specs.Layout.{pending, records, wordy}
use Rattle.model.specs.Flags.{innermost_flag, due, WordsOfIndents, open_marks, around, sheet, written, flag_of, Piece, a_text, a_start_tag, an_empty_tag, an_element, Writes, root_tag, child_behind, record_ends, empty_record_ends, row_ends, field_begins, attribute_grows, attribute_ends, finishes, abandons, at_once, content_result, value_result, result, Notes, in_record, in_content_row, in_named_row, FlagsFollow, IndentsWhereDue, DueIndents, text_last}
use Rattle.model.specs.Table.{Setting, or_stay, next, table, first, judged, handed}
use Rattle.model.specs.Run.{Session, new, run, after, moved_on}
use Rattle.model.proofs.Moves.{Whenever}
use Rattle.model.proofs.Written.{laid, behind_all, last-++, last_texted, last_empty, last_around, last_sheet, last_closed}

-- a body with a piece written behind it, where m is the `<` of a tag
record Grown (m : Mark) (old new : Body) : Type 0 where
  more : List Mark
  is : new.kids ≡ old.kids ++ more
  piece : Piece m more
  last : new.wordy ≡ text_last old.wordy more

-- what a move leaves, beside the result that is said of it
module _ (m : Mark) (rs : List Row) (b : Body) where
  abbrev Fits : Option WriteResult → Move → Type 0
  Fits o (done r n) = (o ≡ Some r) × Grown m b n
  Fits o (on s n) = (o ≡ None) × (n.flag ≡ b.flag) × Grown m b n
  Fits o (opens_row r) = (o ≡ None) × (flag (r ∷ rs) b ≡ flag rs b)
  Fits o (opens_record u n) = o ≡ None

  unchanged : Grown m b b
  unchanged = record { more = []; is = sym (append-nil b.kids); piece = a_text []; last = refl }

  fits_either : (o : Option WriteResult) (t : Bool) (x y : Move) → Fits o x → Fits o y → Fits o (cond t x y)
  fits_either o true x y h k = h
  fits_either o false x y h k = k

  texts : (s : Bytes) → Grown m b (with_text b s)
  texts s = record { more = texted s; is = refl; piece = a_text s; last = last_texted b.wordy s }

module _ (f : EmptyElementHandling) (d : ℕ) (rs : List Row) (b : Body) where
  abbrev less : Mark
  less = child_start rs b d

  abbrev Suits : Option WriteResult → Option Move → Type 0
  Suits o x = Whenever (Fits less rs b o) x

  fits_empty : (n : Bytes) → Fits less rs b (Some Element) (empty_child f d rs b n)
  fits_empty n = (refl, record { more = less ∷ empty_element f n; is = refl; piece = an_empty_tag f n; last = sym (last_empty f rs b d n b.wordy) })

  fits_around : (n s : Bytes) → Fits less rs b (Some Element) (text_child f d rs b n s)
  fits_around n s = (refl, record { more = less ∷ text_element n s; is = refl; piece = an_element n s; last = sym (last_around rs b d n s b.wordy) })

  fits_element : (u n : Bytes) (v : Value) → Suits (at_once Element v) (put_element f d rs b u n v)
  fits_element u n (val_text r s) = fits_either less rs b (Some Element) (null s) _ _ (fits_empty n) (fits_around n (escaped (r.chooses text_use) s))
  fits_element u n val_none = fits_empty n
  fits_element u n (val_variant r v) = fits_either less rs b (Some Element) (is_text_name v) _ _ (fits_empty n) (fits_around n (escaped (r.chooses text_use) v))
  fits_element u n (val_wrapped v) = tt
  fits_element u n val_row = (refl, refl)
  fits_element u n (val_variant_row v) = tt
  fits_element u n (val_record m) = refl
  fits_element u n (val_variant_record v) = tt

  fits_content : (t : Bytes) (v : Value) → Suits (content_result v) (put_content f d rs b t v)
  fits_content t (val_text r s) = (refl, texts less rs b (escaped (r.chooses text_use) s))
  fits_content t val_none = (refl, unchanged less rs b)
  fits_content t (val_variant r v) = go (is_text_name v)
    where
      go : (q : Bool) → Fits less rs b (Some (cond q Nothing Element)) (cond q (done Nothing b) (empty_child f d rs b v))
      go true = (refl, unchanged less rs b)
      go false = fits_empty v
  fits_content t (val_wrapped v) = fits_either less rs b None (is_text_name v) (on simple b) (on (element t v) b) (refl, refl, unchanged less rs b) (refl, refl, unchanged less rs b)
  fits_content t val_row = (refl, refl)
  fits_content t (val_variant_row v) = fits_either less rs b None (is_text_name v) (on (words false) b) (opens_row (named_row t v (flag rs b))) (refl, refl, unchanged less rs b) (refl, refl)
  fits_content t (val_record n) = refl
  fits_content t (val_variant_record v) = refl

  fits_text : (v : Value) → Suits (at_once SensitiveText v) (put_text b v)
  fits_text (val_text r s) = (refl, texts less rs b (escaped (r.chooses text_use) s))
  fits_text val_none = (refl, unchanged less rs b)
  fits_text (val_variant r v) = (refl, texts less rs b (cond (is_text_name v) [] (escaped (r.chooses text_use) v)))
  fits_text (val_wrapped v) = tt
  fits_text val_row = (refl, refl, unchanged less rs b)
  fits_text (val_variant_row v) = tt
  fits_text (val_record n) = tt
  fits_text (val_variant_record v) = tt

  fits_simple : (v : Value) → Suits (at_once SensitiveText v) (put_simple b v)
  fits_simple (val_text r s) = (refl, texts less rs b (escaped (r.chooses text_use) s))
  fits_simple val_none = (refl, unchanged less rs b)
  fits_simple (val_variant r v) = (refl, texts less rs b (escaped (r.chooses text_use) v))
  fits_simple (val_wrapped v) = tt
  fits_simple val_row = (refl, refl, unchanged less rs b)
  fits_simple (val_variant_row v) = tt
  fits_simple (val_record n) = tt
  fits_simple (val_variant_record v) = tt

  fits_item : (w : Bool) (chosen : ℕ → Bool) (s : Bytes) → Fits less rs b None (item w b chosen s)
  fits_item w chosen s = fits_either less rs b None (null s) (on (words w) b) _ (refl, refl, unchanged less rs b) (refl, refl, texts less rs b (gap w ++ escaped chosen s))

  fits_word : (w : Bool) (v : Value) → Suits None (put_word w b v)
  fits_word w (val_text r s) = fits_item w (r.chooses text_item_use) s
  fits_word w val_none = tt
  fits_word w (val_variant r v) = fits_item w (r.chooses text_item_use) v
  fits_word w (val_wrapped v) = tt
  fits_word w val_row = tt
  fits_word w (val_variant_row v) = tt
  fits_word w (val_record n) = tt
  fits_word w (val_variant_record v) = tt

  fits_put : (t : Bytes) (s : Spot) (v : Value) → Suits (value_result s v) (put f d rs t b s v)
  fits_put t (element u n) v = fits_element u n v
  fits_put t (content p) v = fits_content t v
  fits_put t text_spot v = fits_text v
  fits_put t simple v = fits_simple v
  fits_put t (words w) v = fits_word w v

flag_is : (rs : List Row) (b : Body) → flag rs b ≡ innermost_flag rs b.flag
flag_is [] b = refl
flag_is (named_row u n g ∷ rs) b = refl
flag_is (content_row t r g ∷ rs) b = refl

-- a complete child's result is noted, and no record opens
notes : (r : WriteResult) (rs : List Row) (l : Level) (ls : List Outer) → Notes r (settle r rs l ls)
notes r [] l ls = in_record refl
notes r (named_row u n g ∷ rs) l ls = in_named_row
notes r (content_row t q g ∷ rs) l ls = in_content_row

settle_records : (r : WriteResult) (rs : List Row) (l : Level) (ls : List Outer) → records (settle r rs l ls) ≡ suc (length ls)
settle_records r [] l ls = refl
settle_records r (named_row u n g ∷ rs) l ls = refl
settle_records r (content_row t q g ∷ rs) l ls = refl

settle_written : (r : WriteResult) (rs : List Row) (l : Level) (ls : List Outer) → written (settle r rs l ls) ≡ sheet l ls []
settle_written r [] l ls = refl
settle_written r (named_row u n g ∷ rs) l ls = refl
settle_written r (content_row t q g ∷ rs) l ls = refl

none_some : {r : WriteResult} → ◌≡◌ {A = Option WriteResult} None (Some r) → ⊥
none_some h = let z : ◌≡◌ {A = ℕ} 0 1 = cc in absurd (omega (arith, z))

module _ (c : Call) (st : State) where
  flags_noted : (r : WriteResult) (rs : List Row) (l : Level) (ls : List Outer) → result c st ≡ Some r → suc (length ls) ≤ records st → FlagsFollow c st (settle r rs l ls)
  flags_noted r rs l ls e k =
      let n = settle_records r rs l ls in
      record { opened = λ h. absurd (omega (arith, h, n, k)); noted = λ q h. let p : r ≡ q = cc in subst (λ (x : WriteResult). Notes x (settle r rs l ls)) p (notes r rs l ls); kept = λ h x. absurd (none_some (sym x ∙ e)) }

  flags_kept : (next : State) → result c st ≡ None → records next ≡ records st → flag_of next ≡ flag_of st → FlagsFollow c st next
  flags_kept next e k g =
      record { opened = λ h. absurd (omega (arith, h, k)); noted = λ q h. absurd (none_some (sym e ∙ h)); kept = λ h x. g }

  flags_opened : (next : State) → result c st ≡ None → records next ≡ suc (records st) → flag_of next ≡ true → FlagsFollow c st next
  flags_opened next e k g =
      record { opened = λ h. g; noted = λ q h. absurd (none_some (sym e ∙ h)); kept = λ h x. absurd (omega (arith, h, k)) }

  -- nothing is open any more
  flags_gone : (next : State) → result c st ≡ None → records next ≡ 0 → (records st ≡ 0 → flag_of next ≡ flag_of st) → FlagsFollow c st next
  flags_gone next e k g =
      record { opened = λ h. absurd (omega (arith, h, k)); noted = λ q h. absurd (none_some (sym e ∙ h)); kept = λ h x. g (sym h ∙ k) }

-- `wordy` says whether a text's byte stands last
abbrev Worded : State → Type 0
Worded st = wordy st ≡ text_last false (written st)

-- in an innermost record, by its children
worded : (l : Level) (ls : List Outer) (a : Bytes) → l.body.wordy ≡ text_last false l.body.kids → l.body.wordy ≡ text_last false (sheet l ls a)
worded l ls a e = e ∙ sym (last_sheet l ls a)

by_children : (l : Level) (ls : List Outer) (a : Bytes) → l.body.wordy ≡ text_last false (sheet l ls a) → l.body.wordy ≡ text_last false l.body.kids
by_children l ls a e = e ∙ last_sheet l ls a

worded_settle : (r : WriteResult) (rs : List Row) (l : Level) (ls : List Outer) → l.body.wordy ≡ text_last false l.body.kids → Worded (settle r rs l ls)
worded_settle r [] l ls e = worded (with_body l (with_flag l.body (allows_indent r))) ls [] e
worded_settle r (named_row u n g ∷ rs) l ls e = worded l ls [] e
worded_settle r (content_row t q g ∷ rs) l ls e = worded l ls [] e

worded_grown : {m : Mark} (l : Level) (n : Body) → Grown m l.body n → l.body.wordy ≡ text_last false l.body.kids → n.wordy ≡ text_last false n.kids
worded_grown l n g e =
    g.last ∙ (ap (λ t. text_last t g.more) e ∙ (sym (last-++ false l.body.kids g.more) ∙ ap (text_last false) (sym g.is)))

-- the three laws of one call
module _ (f : EmptyElementHandling) where
  record Follows (c : Call) (st next : State) : Type 0 where
    writes : Writes f c st (written next)
    flags : FlagsFollow c st next
    last : Worded st → Worded next

  module _ (v : Value) (s : Spot) (rs : List Row) (l : Level) (ls : List Outer) where
    abbrev at : State
    at = inside s rs l ls

    abbrev mark : Mark
    mark = child_start rs l.body (suc (length ls))

    -- its indent is due by the same flag
    mark_due : mark ≡ less_than (due at) (suc (length ls))
    mark_due = ap (λ g. less_than (g && not l.body.wordy) (suc (length ls))) (flag_is rs l.body)

    grown_writes : (n : Body) → Grown mark l.body n → Writes f (call_value v) at (sheet (with_body l n) ls [])
    grown_writes n g =
        subst (λ (z : List Mark). Writes f (call_value v) at z) (behind_all (around ls) (open_marks l ls) l.body.kids g.more ∙ ap (λ y. around ls ++ (open_marks l ls ++ y)) (sym g.is)) (child_behind (subst (λ (x : Mark). Piece x g.more) mark_due g.piece))

    same_writes : Writes f (call_value v) at (sheet l ls [])
    same_writes = subst (λ (z : List Mark). Writes f (call_value v) at z) (append-nil (sheet l ls [])) (child_behind (a_text []))

    start_writes : (u n : Bytes) → Writes f (call_value v) at (written (between (new_level u n) (record { level = l; rows = rs } ∷ ls)))
    start_writes u n =
        let p : less_than (due at) (suc (length ls)) ∷ tagged n ≡ (mark ∷ tagged (n ++ [])) ++ [] = ap (λ x. x ∷ tagged n) (sym mark_due) ∙ (ap (λ y. mark ∷ tagged y) (sym (append-nil n)) ∙ sym (append-nil (mark ∷ tagged (n ++ [])))) in
        subst (λ (z : List Mark). Writes f (call_value v) at (sheet l ls [] ++ z)) p (child_behind (a_start_tag n))

    row_follows : (r : Row) → value_result s v ≡ None → flag (r ∷ rs) l.body ≡ flag rs l.body → Follows (call_value v) at (row_state r rs l ls)
    row_follows (named_row u n g) e k = record { writes = same_writes; flags = flags_kept (call_value v) at _ e refl (k ∙ flag_is rs l.body); last = λ h. h }
    row_follows (content_row t r g) e k = record { writes = same_writes; flags = flags_kept (call_value v) at _ e refl (k ∙ flag_is rs l.body); last = λ h. h }

    value_follows : (m : Option Move) → Whenever (Fits mark rs l.body (value_result s v)) m → Whenever (Follows (call_value v) at) (moved_if rs l ls m)
    value_follows None h = tt
    value_follows (Some (done r n)) h =
        record { writes = subst (λ (z : List Mark). Writes f (call_value v) at z) (sym (settle_written r rs (with_body l n) ls)) (grown_writes n h.1); flags = flags_noted (call_value v) at r rs (with_body l n) ls h.0 (omega arith); last = λ e. worded_settle r rs (with_body l n) ls (worded_grown l n h.1 (by_children l ls [] e)) }
    value_follows (Some (on x n)) h =
        record { writes = grown_writes n h.2; flags = flags_kept (call_value v) at (inside x rs (with_body l n) ls) h.0 refl (ap (innermost_flag rs) h.1); last = λ e. worded (with_body l n) ls [] (worded_grown l n h.2 (by_children l ls [] e)) }
    value_follows (Some (opens_row r)) h = row_follows r h.0 h.1
    value_follows (Some (opens_record u n)) h = record { writes = start_writes u n; flags = flags_opened (call_value v) at _ h refl refl; last = λ e. worded (new_level u n) (record { level = l; rows = rs } ∷ ls) [] refl }

  -- an attribute's bytes go to the end of the tag
  longer_tag : (l : Level) (ls : List Outer) (a : Bytes) → sheet l ls a ≡ around ls ++ ((start ls ∷ tagged (l.name ++ (l.attrs ++ a))) ++ l.body.kids)
  longer_tag l ls a =
      let p : tagged (l.name ++ l.attrs) ++ (tagged a ++ l.body.kids) ≡ tagged (l.name ++ (l.attrs ++ a)) ++ l.body.kids = sym (append_assoc (tagged (l.name ++ l.attrs)) (tagged a) l.body.kids) ∙ ap (λ y. y ++ l.body.kids) (sym (map-append tag_byte (l.name ++ l.attrs) a) ∙ ap tagged (append_assoc l.name l.attrs a)) in
      ap (λ y. around ls ++ (start ls ∷ y)) p

  quoted_follows : (v : Value) (q : Quote) (l : Level) (ls : List Outer) (o : Option Quoted) → Whenever (Follows (call_value v) (quote q l ls)) (requoted_if l ls o)
  quoted_follows v q l ls None = tt
  quoted_follows v q l ls (Some (closed a)) =
      record { writes = subst (λ (z : List Mark). Writes f (call_value v) (quote q l ls) z) (longer_tag l ls a) (attribute_grows a); flags = flags_kept (call_value v) (quote q l ls) _ refl refl refl; last = λ e. worded (with_attribute l a) ls [] (by_children l ls (pending q) e) }
  quoted_follows v q l ls (Some (still x)) =
      record { writes = attribute_grows (pending x); flags = flags_kept (call_value v) (quote q l ls) _ refl refl refl; last = λ e. worded l ls (pending x) (by_children l ls (pending q) e) }

  field_follows : (k : Bytes) (l : Level) (ls : List Outer) (q : Key) → Follows (call_field k) (between l ls) (field q l ls)
  field_follows k l ls (key_attribute n) =
      record { writes = field_begins (pending (single n)); flags = flags_kept (call_field k) (between l ls) _ refl refl refl; last = λ e. worded l ls (pending (single n)) (by_children l ls [] e) }
  field_follows k l ls key_text =
      record { writes = field_begins []; flags = flags_kept (call_field k) (between l ls) (inside text_spot [] l ls) refl refl refl; last = λ e. e }
  field_follows k l ls key_value =
      record { writes = field_begins []; flags = flags_kept (call_field k) (between l ls) (inside (content true) [] l ls) refl refl refl; last = λ e. e }
  field_follows k l ls (key_element n) =
      record { writes = field_begins []; flags = flags_kept (call_field k) (between l ls) (field (key_element n) l ls) refl refl refl; last = λ e. e }

  -- the end of a row or a list
  ends : (s : Spot) (rs qs : List Row) (l : Level) (ls : List Outer) (r : WriteResult) → result call_end (inside s rs l ls) ≡ Some r → Follows call_end (inside s rs l ls) (settle r qs l ls)
  ends s rs qs l ls r e =
      record { writes = subst (λ (z : List Mark). Writes f call_end (inside s rs l ls) z) (sym (settle_written r qs l ls)) row_ends; flags = flags_noted call_end (inside s rs l ls) r qs l ls e (omega arith); last = λ e. worded_settle r qs l ls (by_children l ls [] e) }

  leave_follows : (s : Spot) (rs : List Row) (l : Level) (ls : List Outer) → Whenever (Follows call_end (inside s rs l ls)) (leave s rs l ls)
  leave_follows (element u n) [] l ls = tt
  leave_follows (element u n) (named_row t m g ∷ rs) l ls = ends (element u n) (named_row t m g ∷ rs) rs l ls Element refl
  leave_follows (element u n) (content_row t r g ∷ rs) l ls = tt
  leave_follows (content p) [] l ls = tt
  leave_follows (content p) (named_row t m g ∷ rs) l ls = tt
  leave_follows (content p) (content_row t r g ∷ rs) l ls = ends (content p) (content_row t r g ∷ rs) rs l ls r refl
  leave_follows text_spot rs l ls = tt
  leave_follows simple rs l ls = tt
  leave_follows (words w) rs l ls = ends (words w) rs rs l ls SensitiveText refl

  leave_quote_follows : (q : Quote) (l : Level) (ls : List Outer) → Whenever (Follows call_end (quote q l ls)) (leave_quote q l ls)
  leave_quote_follows (single k) l ls = tt
  leave_quote_follows (several k v w) l ls =
      record { writes = subst (λ (z : List Mark). Writes f call_end (quote (several k v w) l ls) z) (longer_tag l ls (attribute k v)) (attribute_ends (attribute k v)); flags = flags_kept call_end (quote (several k v w) l ls) _ refl refl refl; last = λ e. worded (with_attribute l (attribute k v)) ls [] (by_children l ls (pending (several k v w)) e) }

  -- the marks of a closed record, behind those of the records around it
  closed_writes : (l : Level) (ls : List Outer) (t : Bool) → no_kids l.body.kids ≡ t →
      Writes f call_end (between l ls) (around ls ++ (start ls ∷ cond t (tagged (l.name ++ (l.attrs ++ shut f l.name))) (tagged (l.name ++ (l.attrs ++ codes ">")) ++ (l.body.kids ++ end_tag (length ls) l))))
  closed_writes l ls true e =
      let p : tagged (l.name ++ l.attrs) ++ tagged (shut f l.name) ≡ tagged (l.name ++ (l.attrs ++ shut f l.name)) = sym (map-append tag_byte (l.name ++ l.attrs) (shut f l.name)) ∙ ap tagged (append_assoc l.name l.attrs (shut f l.name)) in
      subst (λ (z : List Mark). Writes f call_end (between l ls) (around ls ++ (start ls ∷ z))) p (empty_record_ends e)
  closed_writes l ls false e =
      let k = l.body.kids ++ end_tag (length ls) l in
      let p : tagged (l.name ++ l.attrs) ++ (tagged (codes ">") ++ k) ≡ tagged (l.name ++ (l.attrs ++ codes ">")) ++ k = sym (append_assoc (tagged (l.name ++ l.attrs)) (tagged (codes ">")) k) ∙ ap (λ y. y ++ k) (sym (map-append tag_byte (l.name ++ l.attrs) (codes ">")) ∙ ap tagged (append_assoc l.name l.attrs (codes ">"))) in
      subst (λ (z : List Mark). Writes f call_end (between l ls) (around ls ++ (start ls ∷ z))) p (record_ends e)

  close_follows : (l : Level) (ls : List Outer) → Follows call_end (between l ls) (close f l ls)
  close_follows l [] =
      let w : (t : Bool) → no_kids l.body.kids ≡ t → Writes f call_end (between l []) (start [] ∷ cond t (tagged (l.name ++ (l.attrs ++ shut f l.name))) (tagged (l.name ++ (l.attrs ++ codes ">")) ++ (l.body.kids ++ end_tag 0 l))) = λ t e. closed_writes l [] t e in
      record { writes = w (no_kids l.body.kids) refl; flags = flags_gone call_end (between l []) _ refl refl (λ h. absurd (omega (arith, h))); last = λ e. sym (last_closed f l [] false) }
  close_follows l (o ∷ os) =
      let ms = closed_record f (length (o ∷ os)) (start (o ∷ os)) l in
      let n = with_body o.level (record { kids = o.level.body.kids ++ ms; flag = o.level.body.flag; wordy = false }) in
      let p : around (o ∷ os) ++ ms ≡ written (settle Element o.rows n os) = behind_all (around os) (open_marks o.level os) o.level.body.kids ms ∙ sym (settle_written Element o.rows n os) in
      record { writes = subst (λ (z : List Mark). Writes f call_end (between l (o ∷ os)) z) p (closed_writes l (o ∷ os) (no_kids l.body.kids) refl); flags = flags_noted call_end (between l (o ∷ os)) Element o.rows n os refl (omega arith); last = λ e. worded_settle Element o.rows n os (sym (last-++ false o.level.body.kids ms ∙ last_closed f l (o ∷ os) (text_last false o.level.body.kids))) }

  root_follows : (n : Bytes) → Follows (call_open n) idle (between (new_level [] n) [])
  root_follows n =
      let p : tag_byte 60 ∷ tagged n ≡ (tag_byte 60 ∷ tagged (n ++ [])) ++ [] = ap (λ y. tag_byte 60 ∷ tagged y) (sym (append-nil n)) ∙ sym (append-nil (tag_byte 60 ∷ tagged (n ++ []))) in
      record { writes = subst (λ (z : List Mark). Writes f (call_open n) idle z) p root_tag; flags = flags_opened (call_open n) idle _ refl refl refl; last = λ e. worded (new_level [] n) [] [] refl }

  abandon_follows : (st : State) → (records st ≡ 0 → flag_of st ≡ false) → Follows call_abandon st idle
  abandon_follows st h = record { writes = abandons; flags = flags_gone call_abandon st idle refl refl (λ e. sym (h e)); last = λ e. refl }

  step_follows : (c : Call) (st : State) → Whenever (Follows c st) (step f c st)
  step_follows (call_open n) idle = root_follows n
  step_follows (call_open n) (between l ls) = tt
  step_follows (call_open n) (inside s rs l ls) = tt
  step_follows (call_open n) (quote q l ls) = tt
  step_follows (call_open n) (complete ms) = tt
  step_follows (call_field k) idle = tt
  step_follows (call_field k) (between l ls) = field_follows k l ls (key k)
  step_follows (call_field k) (inside s rs l ls) = tt
  step_follows (call_field k) (quote q l ls) = tt
  step_follows (call_field k) (complete ms) = tt
  step_follows (call_value v) idle = tt
  step_follows (call_value v) (between l ls) = tt
  step_follows (call_value v) (inside s rs l ls) = value_follows v s rs l ls _ (fits_put f (suc (length ls)) rs l.body (stack rs l) s v)
  step_follows (call_value v) (quote q l ls) = quoted_follows v q l ls (put_quote q v)
  step_follows (call_value v) (complete ms) = tt
  step_follows call_end idle = tt
  step_follows call_end (between l ls) = close_follows l ls
  step_follows call_end (inside s rs l ls) = leave_follows s rs l ls
  step_follows call_end (quote q l ls) = leave_quote_follows q l ls
  step_follows call_end (complete ms) = tt
  step_follows call_finish idle = tt
  step_follows call_finish (between l ls) = tt
  step_follows call_finish (inside s rs l ls) = tt
  step_follows call_finish (quote q l ls) = tt
  step_follows call_finish (complete ms) = record { writes = finishes; flags = flags_kept call_finish (complete ms) idle refl refl refl; last = λ e. refl }
  step_follows call_abandon idle = tt
  step_follows call_abandon (between l ls) = abandon_follows (between l ls) (λ e. absurd (omega (arith, e)))
  step_follows call_abandon (inside s rs l ls) = abandon_follows (inside s rs l ls) (λ e. absurd (omega (arith, e)))
  step_follows call_abandon (quote q l ls) = abandon_follows (quote q l ls) (λ e. absurd (omega (arith, e)))
  step_follows call_abandon (complete ms) = abandon_follows (complete ms) (λ e. refl)

-- what is there has what holds whenever something is
of_next : (P : State → Type 0) (o : Option State) (n : State) → Whenever P o → o ≡ Some n → P n
of_next P o n h e = let w : Whenever P (Some n) = subst (Whenever P) e h in w

due_indents : (f : EmptyElementHandling) → DueIndents f
due_indents f =
    record { laid_out = laid; writes = λ c st n e. let h = of_next (Follows f c st) (step f c st) n (step_follows f c st) e in h.writes; flags = λ c st n e. let h = of_next (Follows f c st) (step f c st) n (step_follows f c st) e in h.flags; empty_row = λ p rs l ls n e. of_next (λ x. result call_end x ≡ Some SensitiveNothing) _ n refl e }

-- over a run
module _ (w : Setting) where
  worded_or_stay : (c : Call) (st : State) → Worded st → (o : Option State) → Whenever (Follows w.form c st) o → Worded (or_stay st o)
  worded_or_stay c st e None h = e
  worded_or_stay c st e (Some n) h = h.last e

  worded_judged : (c : Call) (s : Session) → Worded s.model → (o : Option Refusal) → Worded (moved_on s (handed w.indentation c s.model) (judged o (next w.form c s.model))).model
  worded_judged c s e (Some x) = e
  worded_judged c s e None = worded_or_stay c s.model e (step w.form c s.model) (step_follows w.form c s.model)

  worded_run : (cs : List Call) (s : Session) → Worded s.model → Worded (run w cs s).model
  worded_run [] s e = e
  worded_run (c ∷ cs) s e = worded_run cs (after w c s) (worded_judged c s e (first (table w s.room c s.model)))

-- an indent may follow just these
followed : (r : WriteResult) → (r ≡ Element) ⊎ (r ≡ Nothing) → allows_indent r ≡ true
followed r (inl e) = ap allows_indent e
followed r (inr e) = ap allows_indent e

words_of_indents : WordsOfIndents
words_of_indents = record { with_indent = λ d. refl; without = λ d. refl; followed = λ r. (of_result r, followed r) }
  where
    of_result : (r : WriteResult) → allows_indent r ≡ true → (r ≡ Element) ⊎ (r ≡ Nothing)
    of_result Text e = absurd (false≢true e)
    of_result Element e = inl refl
    of_result Nothing e = inr refl
    of_result SensitiveText e = absurd (false≢true e)
    of_result SensitiveNothing e = absurd (false≢true e)

pub indents_where_due : IndentsWhereDue
indents_where_due = (due_indents, λ w cs r. worded_run w cs (new r) refl, words_of_indents)
