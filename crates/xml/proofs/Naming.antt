-- The computed place of a name's fault is the first character at fault, and a name has none. Assumes nothing.
use Rattle.std.proofs.Common.{◌≡◌, ℕ, ◌+◌, Bool, true, false, cond, nat_lt, ◌&&◌, List, [], ◌∷◌, ◌++◌, length, drop, Some, None, IsUtf8, Option, sym, refl, ap, ◌∙◌, subst, inl, inr, append_assoc, append-nil, zero-add, length-append}
use lib.Utf8.{scalar, scalars, encode, encodes}
use Rattle.std.specs.List.{list_all}
use Rattle.std.specs.Char.{len_utf8}
use Rattle.std.specs.Str.{chars}
use Rattle.std.specs.Str.Pattern.{FindsPrefixBy}
use Rattle.std.proofs.lemmas.Str.{encodes-append, length-encode, encodes-chars, scalars-chars, chars-encodes, chars-nil, chars_past_char, chars-IsAscii}
use Rattle.std.specs.Str.{IsAscii}
use Rattle.std.proofs.lemmas.Str.Ascii.{IsAscii-nil, IsAscii-cons}
use Rattle.std.proofs.lemmas.List.{nil_from_length}
use Rattle.std.proofs.lemmas.List.Folds.{list_all-append}
use Rattle.std.proofs.lemmas.Option.{none-some, same_Some}
use Rattle.std.proofs.lemmas.Bool.{and_from, and_parts, both_ways, cond-true, cond-false, ltb-true, or_left}
use Rattle.xml.specs.Names.{is_start, is_name_char, is_name, Name, may_follow, FirstAtFault, Faults, stray_from, fault_from, name_fault}

-- one more name character behind a name is a name
name_more : (cs : List ℕ) (c : ℕ) → is_name cs ≡ true → is_name_char c ≡ true → is_name (cs ++ c ∷ []) ≡ true
name_more [] c h k = absurd (both_ways false refl h)
name_more (d ∷ ds) c h k =
    let p = and_parts (is_start d) (list_all is_name_char ds) h in
    let more = list_all-append is_name_char ds (c ∷ []) ∙ and_from _ _ p.1 (and_from (is_name_char c) true k refl) in
    and_from (is_start d) (list_all is_name_char (ds ++ c ∷ [])) p.0 more

-- behind a name, only a character that is no name character is at fault
past_name : (cs : List ℕ) (c : ℕ) → is_name cs ≡ true → is_name_char c ≡ false → may_follow cs c ≡ false
past_name [] c h k = absurd (both_ways false refl h)
past_name (d ∷ ds) c h k = k

-- the end of what is spelt so far, one character on
longer : (front : List ℕ) (c : ℕ) → length (encodes (front ++ c ∷ [])) ≡ length (encodes front) + len_utf8 c
longer front c =
    ap length (encodes-append front (c ∷ []) ∙ ap (λ l. encodes front ++ l) (append-nil (encode c))) ∙ length-append (encodes front) (encode c) ∙ ap (λ n. length (encodes front) + n) (length-encode c)

shifted : (front : List ℕ) (c : ℕ) (cs : List ℕ) → encodes (front ++ c ∷ []) ++ encodes cs ≡ encodes front ++ encodes (c ∷ cs)
shifted front c cs =
    ap (λ l. l ++ encodes cs) (encodes-append front (c ∷ []) ∙ ap (λ l. encodes front ++ l) (append-nil (encode c))) ∙ append_assoc (encodes front) (encode c) (encodes cs)

-- behind the name `front`, the first stray character is the first at fault
stray_first : (cs front : List ℕ) (at k : ℕ) → is_name front ≡ true → length (encodes front) ≡ at → stray_from cs at ≡ Some k → FirstAtFault (encodes front ++ encodes cs) k
stray_first [] front at k h e s = absurd (none-some k s)
stray_first (c ∷ cs) front at k h e s =
    split (is_name_char c) refl (λ t. stray_first cs (front ++ c ∷ []) (at + len_utf8 c) k (name_more front c h t) (longer front c ∙ ap (λ n. n + len_utf8 c) e)) s
  where
    split : (t : Bool) → is_name_char c ≡ t → (is_name_char c ≡ true → stray_from cs (at + len_utf8 c) ≡ Some k → FirstAtFault (encodes (front ++ c ∷ []) ++ encodes cs) k) → cond t (stray_from cs (at + len_utf8 c)) (Some at) ≡ Some k → FirstAtFault (encodes front ++ encodes (c ∷ cs)) k
    split true t next s = subst (λ l. FirstAtFault l k) (shifted front c cs) (next t s)
    split false t next s =
        record {
          front = front;
          here = encodes (c ∷ cs);
          spelt = refl;
          offset = e ∙ same_Some at k s;
          begun = inr h;
          fault = inr (c, encodes cs, refl, past_name front c h t);
        }

first_at_fault : (cs : List ℕ) (k : ℕ) → fault_from cs 0 ≡ Some k → FirstAtFault (encodes cs) k
first_at_fault [] k s = record { front = []; here = []; spelt = refl; offset = same_Some 0 k s; begun = inl refl; fault = inl (refl, refl) }
first_at_fault (c ∷ cs) k s = split (is_start c) refl s
  where
    split : (t : Bool) → is_start c ≡ t → cond t (stray_from cs (0 + len_utf8 c)) (Some 0) ≡ Some k → FirstAtFault (encodes (c ∷ cs)) k
    split true t s =
        subst (λ l. FirstAtFault l k) (ap (λ l. l ++ encodes cs) (append-nil (encode c)))
        (stray_first cs (c ∷ []) (0 + len_utf8 c) k (and_from (is_start c) true t refl) (ap length (append-nil (encode c)) ∙ length-encode c ∙ sym (zero-add (len_utf8 c))) s)
    split false t s = record { front = []; here = encodes (c ∷ cs); spelt = refl; offset = same_Some 0 k s; begun = inl refl; fault = inr (c, encodes cs, refl, t) }

-- a name has no fault, and what has none is a name
stray_none : (cs : List ℕ) (at : ℕ) → list_all is_name_char cs ≡ true → stray_from cs at ≡ None
stray_none [] at h = refl
stray_none (c ∷ cs) at h = let p = and_parts (is_name_char c) (list_all is_name_char cs) h in rw p.0 (stray_none cs (at + len_utf8 c) p.1)

all_from_none : (cs : List ℕ) (at : ℕ) → stray_from cs at ≡ None → list_all is_name_char cs ≡ true
all_from_none [] at s = refl
all_from_none (c ∷ cs) at s = split (is_name_char c) (all_from_none cs (at + len_utf8 c)) s
  where
    split : (t : Bool) → (stray_from cs (at + len_utf8 c) ≡ None → list_all is_name_char cs ≡ true) → cond t (stray_from cs (at + len_utf8 c)) (Some at) ≡ None → (t && list_all is_name_char cs) ≡ true
    split true next s = next s
    split false next s = absurd (none-some at (sym s))

fault_none : (cs : List ℕ) → is_name cs ≡ true → fault_from cs 0 ≡ None
fault_none [] h = absurd (both_ways false refl h)
fault_none (c ∷ cs) h = let p = and_parts (is_start c) (list_all is_name_char cs) h in rw p.0 (stray_none cs (0 + len_utf8 c) p.1)

name_from_none : (cs : List ℕ) → fault_from cs 0 ≡ None → is_name cs ≡ true
name_from_none [] s = absurd (none-some 0 (sym s))
name_from_none (c ∷ cs) s = split (is_start c) s
  where
    split : (t : Bool) → cond t (stray_from cs (0 + len_utf8 c)) (Some 0) ≡ None → (t && list_all is_name_char cs) ≡ true
    split true s = all_from_none cs (0 + len_utf8 c) s
    split false s = absurd (none-some 0 (sym s))

-- so the computed answer is the right one
pub faults_of : (bs : List ℕ) → IsUtf8 bs → (r : Option ℕ) → r ≡ name_fault bs → Faults r bs
faults_of bs u None e = record { chars = chars bs; scalar = scalars-chars bs u; spelt = encodes-chars bs u; is = name_from_none (chars bs) (sym e) }
faults_of bs u (Some k) e = (subst (λ l. FirstAtFault l k) (encodes-chars bs u) (first_at_fault (chars bs) k (sym e)), no_name)
  where
    no_name : Name bs → ⊥
    no_name n =
        let same : chars bs ≡ n.chars = ap chars (sym n.spelt) ∙ chars-encodes n.chars n.scalar in
        none-some k (sym (e ∙ ap (λ cs. fault_from cs 0) same ∙ fault_none n.chars n.is))

-- one step of the search for a stray character
stray_step : (bs rest : List ℕ) (c at : ℕ) → IsUtf8 bs → bs ≡ encode c ++ rest → stray_from (chars bs) at ≡ cond (is_name_char c) (stray_from (chars rest) (at + length (encode c))) (Some at)
stray_step bs rest c at u e =
    ap (λ cs. stray_from cs at) (chars_past_char bs rest c u e) ∙ ap (λ n. cond (is_name_char c) (stray_from (chars rest) (at + n)) (Some at)) (sym (length-encode c))

pub stray_later : (bs rest : List ℕ) (c at : ℕ) → IsUtf8 bs → bs ≡ encode c ++ rest → is_name_char c ≡ true → stray_from (chars rest) (at + length (encode c)) ≡ stray_from (chars bs) at
stray_later bs rest c at u e h = sym (stray_step bs rest c at u e ∙ cond-true _ _ _ h)

pub stray_here : (bs rest : List ℕ) (c at : ℕ) → IsUtf8 bs → bs ≡ encode c ++ rest → is_name_char c ≡ false → Some at ≡ stray_from (chars bs) at
stray_here bs rest c at u e h = sym (stray_step bs rest c at u e ∙ cond-false _ _ _ h)

no_chars : (bs : List ℕ) → length bs ≡ 0 → [] ≡ chars bs
no_chars bs e = sym chars-nil ∙ ap chars (sym (nil_from_length bs e))

pub stray_past : (bs : List ℕ) (at : ℕ) → length bs ≡ 0 → None ≡ stray_from (chars bs) at
stray_past bs at e = ap (λ cs. stray_from cs at) (no_chars bs e)

-- a text that begins with no start character is at fault at once
pub fault_here : (bs : List ℕ) → IsUtf8 bs → FindsPrefixBy is_start bs None → Some 0 ≡ name_fault bs
fault_here bs u none = first (chars bs) (scalars-chars bs u) (encodes-chars bs u)
  where
    first : (cs : List ℕ) → scalars cs ≡ true → encodes cs ≡ bs → Some 0 ≡ fault_from cs 0
    first [] s e = refl
    first (c ∷ cs) s e = sym (cond-false _ _ _ (none c (encodes cs) (and_parts (scalar c) (scalars cs) s).0 (sym e)))

-- and in one that begins with a start character, a stray one is
pub fault_later : (bs : List ℕ) (n : ℕ) → IsUtf8 bs → FindsPrefixBy is_start bs (Some n) → stray_from (chars bs) 0 ≡ name_fault bs
fault_later bs n u begun =
    let is = chars_past_char bs (drop n bs) begun.0 u begun.2.split in
    ap (λ cs. stray_from cs 0) is ∙ cond-true _ _ _ (or_left _ _ begun.1) ∙ sym (ap (λ cs. fault_from cs 0) is ∙ cond-true _ _ _ begun.1)

pub name_from_no_fault : {n : List ℕ} → IsUtf8 n → name_fault n ≡ None → Name n
name_from_no_fault {n} u e = faults_of n u None (sym e)

-- ASCII bytes are their characters, so such a name needs no decoding
abbrev pub plain : ℕ → Bool
plain b = nat_lt b 128 && is_name_char b

plain_all : (cs : List ℕ) → list_all plain cs ≡ true → (list_all is_name_char cs ≡ true) × IsAscii cs
plain_all [] h = (refl, IsAscii-nil)
plain_all (c ∷ cs) h =
    let p = and_parts (plain c) (list_all plain cs) h in
    let q = and_parts (nat_lt c 128) (is_name_char c) p.0 in
    let rest = plain_all cs p.1 in
    (and_from (is_name_char c) (list_all is_name_char cs) q.1 rest.0, IsAscii-cons c cs (ltb-true c 128 q.0) rest.1)

pub plain_name : (c : ℕ) (cs : List ℕ) → (nat_lt c 128 && is_start c) ≡ true → list_all plain cs ≡ true → (is_name (c ∷ cs) ≡ true) × IsAscii (c ∷ cs)
plain_name c cs h k =
    let p = and_parts (nat_lt c 128) (is_start c) h in
    let rest = plain_all cs k in
    (and_from (is_start c) (list_all is_name_char cs) p.1 rest.0, IsAscii-cons c cs (ltb-true c 128 p.0) rest.1)

pub plain_no_fault : (bs : List ℕ) → is_name bs ≡ true → IsAscii bs → None ≡ name_fault bs
plain_no_fault bs h k = sym (ap (λ cs. fault_from cs 0) (chars-IsAscii bs k) ∙ fault_none bs h)
