-- A scanner that goes over the bytes once and stops at the first fault. Whatever reading the bytes have, the scanner ends
-- with its trees: so there is at most one, and none where the scanner stops.
use Rattle.std.proofs.Common.{◌≡◌, ℕ, Bool, true, false, cond, ◌&&◌, eqb, List, [], ◌∷◌, ◌++◌, codes, sym, refl, ap, ◌∙◌, append_assoc}
use Rattle.std.specs.Str.{chars, bytes_eq}
use Rattle.std.proofs.lemmas.List.{append-nil}
use Rattle.std.proofs.lemmas.Bool.{ne_eqb, not-true}
use Rattle.std.proofs.lemmas.Str.{chars_from_encodes}
use Rattle.std.proofs.lemmas.Slice.Eq.{bytes_eq-Decides}
use Rattle.xml.specs.Names.{Name, is_name}
use Rattle.xml.specs.Escaping.{among}
use Rattle.xml.specs.Reading.{Reference, lt, gt, apos, amp, quot, tab, line_feed, carriage_return, space, AttValue, value_end, value_raw, value_reference, begins, value_byte}
use Rattle.xml.proofs.Free.{apart}
use Rattle.reader.specs.Trees.{Bytes, Attributes, Nodes, done, elem, ◌▹◌}
use Rattle.reader.specs.Reader.{Attribs, attribs_end, attribs_more}
use Rattle.reader.proofs.Tidy.{◌⊕◌}
use Rattle.reader.proofs.Bytewise.{Each, each_here, each_rest}
use Rattle.reader.proofs.Characters.{plain, delimiters, name_plain, name_first, name_utf8}

-- the elements that are open, each with its children so far
pub data Around : Type 0 where
  outermost : Nodes → Around
  inside : Bytes → Attributes → Around → Nodes → Around

-- more nodes behind the innermost children
abbrev pub adds : Nodes → Around → Around
adds ms (outermost ks) = outermost (ks ⊕ ms)
adds ms (inside n at o ks) = inside n at o (ks ⊕ ms)

-- where bytes are said: among the children, or in the value v of an attribute k, in a tag with name n and attributes `at` so far
pub data Spot : Type 0 where
  children : Around → Spot
  value : Bytes → Attributes → Bytes → Bytes → Around → Spot

-- where the scanner is
pub data Scan : Type 0 where
  saying : Spot → Scan
  -- in a reference there
  reference : Bytes → Spot → Scan
  -- behind <
  opened : Around → Scan
  -- in the name of a tag or behind an attribute, behind a space, in an attribute's name, behind its =, behind the / of an empty tag
  naming : Bytes → Attributes → Around → Scan
  spaced : Bytes → Attributes → Around → Scan
  keying : Bytes → Attributes → Bytes → Around → Scan
  equal : Bytes → Attributes → Bytes → Around → Scan
  slashed : Bytes → Attributes → Around → Scan
  -- in the name of an end tag
  leaving : Bytes → Around → Scan
  fault : Scan

-- one more byte said; between the elements of a row there is no text
abbrev pub says : ℕ → Spot → Scan
says b (children (outermost ks)) = fault
says b (children (inside n at o ks)) = saying (children (inside n at o (ks ⊕ (b ▹ done))))
says b (value n at k v o) = saying (value n at k (v ++ b ∷ []) o)

-- a name, as a test
abbrev named : Bytes → Bool
named n = is_name (chars n)

-- what stands between & and ; in the nine references
abbrev nine_words : List (Bytes × ℕ)
nine_words = (codes "lt", 60) ∷ (codes "gt", 62) ∷ (codes "apos", 39) ∷ (codes "amp", 38) ∷ (codes "quot", 34) ∷ (codes "#9", 9) ∷ (codes "#10", 10) ∷ (codes "#13", 13) ∷ (codes "#32", 32) ∷ []

-- a reference is read as the byte that it stands for
abbrev refers : List (Bytes × ℕ) → Bytes → Spot → Scan
refers [] r s = fault
refers (w ∷ ws) r s = cond (bytes_eq r w.0) (says w.1 s) (refers ws r s)

-- a byte, not &, with the bytes behind it
abbrev raw_step : Spot → ℕ → Bytes → Scan
raw_step (children o) b rest = cond (eqb b 60) (opened o) (cond (begins (codes "]]>") (b ∷ rest)) fault (says b (children o)))
raw_step (value n at k v o) b rest = cond (eqb b 34) (naming n (at ++ (k, v) ∷ []) o) (cond (eqb b 60) fault (says (value_byte b) (value n at k v o)))

-- a name's byte: an attribute is followed by none
abbrev more_name : Bytes → Attributes → Around → ℕ → Scan
more_name n [] o b = naming (n ++ b ∷ []) [] o
more_name n (p ∷ at) o b = fault

-- behind a name or an attribute
abbrev in_tag : Bytes → Attributes → Around → ℕ → Scan
in_tag n at o b = cond (eqb b 32) (spaced n at o) (cond (eqb b 47) (slashed n at o) (cond (eqb b 62) (saying (children (inside n at o done))) fault))

-- an end tag with the name m
abbrev leaves : Bytes → Around → Scan
leaves m (outermost ks) = fault
leaves m (inside n at o ks) = cond (bytes_eq m n) (saying (children (adds (elem n at ks done) o))) fault

-- one byte on, with a look at the bytes behind it
abbrev step : Scan → ℕ → Bytes → Scan
step (saying s) b rest = cond (eqb b 38) (reference [] s) (raw_step s b rest)
step (reference r s) b rest = cond (eqb b 59) (refers nine_words r s) (reference (r ++ b ∷ []) s)
step (opened o) b rest = cond (eqb b 47) (leaving [] o) (naming (b ∷ []) [] o)
step (naming n at o) b rest = cond (plain b) (more_name n at o b) (cond (named n) (in_tag n at o b) fault)
step (spaced n at o) b rest = cond (eqb b 47) (slashed n at o) (keying n at (b ∷ []) o)
step (keying n at k o) b rest = cond (plain b) (keying n at (k ++ b ∷ []) o) (cond (named k && eqb b 61) (equal n at k o) fault)
step (equal n at k o) b rest = cond (eqb b 34) (saying (value n at k [] o)) fault
step (slashed n at o) b rest = cond (eqb b 62) (saying (children (adds (elem n at done done) o))) fault
step (leaving m o) b rest = cond (plain b) (leaving (m ++ b ∷ []) o) (cond (eqb b 62) (leaves m o) fault)
step fault b rest = fault

abbrev pub scan : Scan → Bytes → Scan
scan s [] = s
scan s (b ∷ bs) = scan (step s b bs) bs

-- it is between the elements of a row
abbrev pub at_end : Scan → Bool
at_end (saying (children (outermost ks))) = true
at_end (saying (children (inside n at o ks))) = false
at_end (saying (value n at k v o)) = false
at_end (reference r s) = false
at_end (opened o) = false
at_end (naming n at o) = false
at_end (spaced n at o) = false
at_end (keying n at k o) = false
at_end (equal n at k o) = false
at_end (slashed n at o) = false
at_end (leaving m o) = false
at_end fault = false

-- one byte that leads to the state t
pub then : (s t : Scan) (b : ℕ) (rest : Bytes) → step s b rest ≡ t → scan s (b ∷ rest) ≡ scan t rest
then s t b rest e = ap (λ x. scan x rest) e

-- names

module _ (at : Bytes → Scan) (one : (m : Bytes) (b : ℕ) (rest : Bytes) → plain b ≡ true → step (at m) b rest ≡ at (m ++ b ∷ [])) where
  -- a name is gathered byte by byte
  gathers : (m n rest : Bytes) → Each plain n → scan (at m) (n ++ rest) ≡ scan (at (m ++ n)) rest
  gathers m [] rest h = rw append-nil
  gathers m (b ∷ n) rest h =
      then (at m) (at (m ++ b ∷ [])) b (n ++ rest) (one m b (n ++ rest) (each_here h)) ∙ gathers (m ++ b ∷ []) n rest (each_rest h) ∙ ap (λ x. scan (at x) rest) (append_assoc m (b ∷ []) n)

  -- from a state that takes a name's first byte
  gathers_all : {n : Bytes} (s : Scan) → ((b : ℕ) (rest : Bytes) → plain b ≡ true → step s b rest ≡ at (b ∷ [])) → Name n → (rest : Bytes) → scan s (n ++ rest) ≡ scan (at n) rest
  gathers_all {n} s first h rest = parts (name_first h) (name_plain h)
    where
      parts : (b : ℕ) × (t : Bytes) × (n ≡ b ∷ t) → Each plain n → scan s (n ++ rest) ≡ scan (at n) rest
      parts f p =
          let q : Each plain (f.0 ∷ f.1) = rw f.2 at p in
          rw f.2 (then s (at (f.0 ∷ [])) f.0 (f.1 ++ rest) (first f.0 (f.1 ++ rest) (each_here q)) ∙ gathers (f.0 ∷ []) f.1 rest (each_rest q))

-- a name's byte is no slash
no_slash : (b : ℕ) → plain b ≡ true → eqb b 47 ≡ false
no_slash b h = apart b 47 delimiters (not-true (among b delimiters) h) refl

scan_name : {n : Bytes} → Name n → (o : Around) (rest : Bytes) → scan (opened o) (n ++ rest) ≡ scan (naming n [] o) rest
scan_name h o rest = gathers_all (λ m. naming m [] o) (λ m b r e. rw e) (opened o) (λ b r e. rw (no_slash b e)) h rest

scan_key : {k : Bytes} → Name k → (n : Bytes) (at : Attributes) (o : Around) (rest : Bytes) → scan (spaced n at o) (k ++ rest) ≡ scan (keying n at k o) rest
scan_key h n at o rest = gathers_all (λ m. keying n at m o) (λ m b r e. rw e) (spaced n at o) (λ b r e. rw (no_slash b e)) h rest

pub scan_end : {n : Bytes} → Name n → (o : Around) (rest : Bytes) → scan (leaving [] o) (n ++ rest) ≡ scan (leaving n o) rest
scan_end {n} h o rest = gathers (λ m. leaving m o) (λ m b r e. rw e) [] n rest (name_plain h)

pub bytes_eq_self : (n : Bytes) → bytes_eq n n ≡ true
bytes_eq_self n = (bytes_eq-Decides n n).1 refl

pub named_is : {n : Bytes} → Name n → named n ≡ true
named_is {n} h = ap is_name (sym (chars_from_encodes h.chars n (name_utf8 h) h.spelt)) ∙ h.is

-- references, values and attributes

pub scan_reference : {r : Bytes} {b : ℕ} → Reference r b → (s : Spot) (rest : Bytes) → scan (saying s) (r ++ rest) ≡ scan (says b s) rest
scan_reference lt s rest = refl
scan_reference gt s rest = refl
scan_reference apos s rest = refl
scan_reference amp s rest = refl
scan_reference quot s rest = refl
scan_reference tab s rest = refl
scan_reference line_feed s rest = refl
scan_reference carriage_return s rest = refl
scan_reference space s rest = refl

module _ (n : Bytes) (at : Attributes) (k : Bytes) (o : Around) (rest : Bytes) where
  -- the value so far, v, in two parts
  valued : (v w x : Bytes) → scan (saying (value n at k (v ++ w ++ x) o)) rest ≡ scan (saying (value n at k (v ++ (w ++ x)) o)) rest
  valued v w x = ap (λ y. scan (saying (value n at k y o)) rest) (append_assoc v w x)

  pub scan_value : {raw w : Bytes} → AttValue raw w → (v : Bytes) → scan (saying (value n at k v o)) (raw ++ rest) ≡ scan (saying (value n at k (v ++ w) o)) rest
  scan_value value_end v = rw append-nil
  scan_value (value_raw {b} {raw} {value = w} p q r h) v =
      then (saying (value n at k v o)) (saying (value n at k (v ++ value_byte b ∷ []) o)) b (raw ++ rest) (rw (ne_eqb b 38 q, ne_eqb b 34 r, ne_eqb b 60 p)) ∙ scan_value h (v ++ value_byte b ∷ []) ∙ valued v (value_byte b ∷ []) w
  scan_value (value_reference {r} {b} {raw} {value = w} p h) v = rw (append_assoc r raw rest) (scan_reference p (value n at k v o) (raw ++ rest) ∙ scan_value h (v ++ b ∷ []) ∙ valued v (b ∷ []) w)

scan_attribs : {a : Bytes} {more : Attributes} → Attribs a more → {n : Bytes} → Name n → (at : Attributes) (o : Around) (rest : Bytes) → scan (naming n at o) (a ++ rest) ≡ scan (naming n (at ++ more) o) rest
scan_attribs attribs_end h at o rest = rw append-nil
scan_attribs (attribs_more {n = k} {raw} {v} {a} {at = more} key w m) {n} h at o rest =
    let after = codes "=\"" ++ (raw ++ (codes "\"" ++ (a ++ rest))) in
    rw (append_assoc k (codes "=\"" ++ (raw ++ (codes "\"" ++ a))) rest, append_assoc raw (codes "\"" ++ a) rest)
    (then (naming n at o) (spaced n at o) 32 (k ++ after) (rw (named_is h))
    ∙ scan_key key n at o after
    ∙ then (keying n at k o) (equal n at k o) 61 (codes "\"" ++ (raw ++ (codes "\"" ++ (a ++ rest)))) (rw (named_is key))
    ∙ scan_value n at k o (codes "\"" ++ (a ++ rest)) w []
    ∙ scan_attribs m h (at ++ (k, v) ∷ []) o rest
    ∙ ap (λ x. scan (naming n x o) rest) (append_assoc at ((k, v) ∷ []) more))

-- a start tag up to what follows the attributes
pub scan_tag : {n a : Bytes} {at : Attributes} → Name n → Attribs a at → (o : Around) (x rest : Bytes) → scan (saying (children o)) ((codes "<" ++ (n ++ (a ++ x))) ++ rest) ≡ scan (naming n at o) (x ++ rest)
scan_tag {n} {a} h m o x rest = rw (append_assoc n (a ++ x) rest, append_assoc a x rest) (scan_name h o (a ++ (x ++ rest)) ∙ scan_attribs m h [] o (x ++ rest))
