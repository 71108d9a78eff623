-- Every indent stands straight behind the `>` of a tag: marks of which that holds, and how it is kept as marks are written.
use Rattle.std.proofs.Common.{◌≡◌, ℕ, Bool, true, false, not, ◌&&◌, eqb, List, [], ◌∷◌, ◌++◌, codes, sym, refl, ap, ◌∙◌, subst, append_assoc}
use Rattle.std.proofs.lemmas.List.{append-nil}
use Rattle.std.proofs.lemmas.Bool.{false≢true, true≢false, eqb-true, and_parts, and_from}
use Rattle.style.specs.declared.style.EmptyElementHandling.{EmptyElementHandling}
use Rattle.style.specs.declared.style.EmptyElementHandling.TheVariants.{SelfClosed, SelfClosedWithSpace, Expanded}
use Rattle.reader.specs.Trees.{Bytes}
use Rattle.model.specs.Marks.{Mark, tag_byte, text_byte, lead, tagged, texted, less_than, shut, text_element}
use Rattle.model.specs.Model.{Body}
use Rattle.model.specs.Step.{with_tag, with_text}

-- the mark is a `>` of a tag
abbrev pub closes : Mark → Bool
closes (tag_byte b) = eqb b 62
closes (text_byte b) = false
closes (lead d) = false

-- an indent may stand behind a `>` only
abbrev pub leads_from : Bool → Mark → Bool
leads_from p (tag_byte b) = true
leads_from p (text_byte b) = true
leads_from p (lead d) = p

-- in these marks every indent stands straight behind a `>`; whether one stands before them
abbrev pub led : Bool → List Mark → Bool
led p [] = true
led p (m ∷ ms) = leads_from p m && led (closes m) ms

-- a `>` stands last
abbrev pub shuts : Bool → List Mark → Bool
shuts p [] = p
shuts p (m ∷ ms) = shuts (closes m) ms

led-++ : (p : Bool) (xs ys : List Mark) → led p xs ≡ true → led (shuts p xs) ys ≡ true → led p (xs ++ ys) ≡ true
led-++ p [] ys h k = k
led-++ p (x ∷ xs) ys h k =
    let a = and_parts (leads_from p x) (led (closes x) xs) h in
    and_from (leads_from p x) (led (closes x) (xs ++ ys)) a.0 (led-++ (closes x) xs ys a.1 k)

shuts-++ : (p : Bool) (xs ys : List Mark) → shuts p (xs ++ ys) ≡ shuts (shuts p xs) ys
shuts-++ p [] ys = refl
shuts-++ p (x ∷ xs) ys = shuts-++ (closes x) xs ys

-- bytes have no indent among them
led_tagged : (p : Bool) (s : Bytes) → led p (tagged s) ≡ true
led_tagged p [] = refl
led_tagged p (b ∷ s) = led_tagged (eqb b 62) s

led_texted : (p : Bool) (s : Bytes) → led p (texted s) ≡ true
led_texted p [] = refl
led_texted p (b ∷ s) = led_texted false s

-- what ends in a `>`
shuts_tagged : (p : Bool) (s : Bytes) → shuts p (tagged (s ++ codes ">")) ≡ true
shuts_tagged p [] = refl
shuts_tagged p (b ∷ s) = shuts_tagged (eqb b 62) s

shuts_shut : (p : Bool) (f : EmptyElementHandling) (s n : Bytes) → shuts p (tagged (s ++ shut f n)) ≡ true
shuts_shut p SelfClosed s n = ap (λ x. shuts p (tagged x)) (sym (append_assoc s (codes "/") (codes ">"))) ∙ shuts_tagged p (s ++ codes "/")
shuts_shut p SelfClosedWithSpace s n = ap (λ x. shuts p (tagged x)) (sym (append_assoc s (codes " /") (codes ">"))) ∙ shuts_tagged p (s ++ codes " /")
shuts_shut p Expanded s n = ap (λ x. shuts p (tagged x)) (sym (append_assoc s (codes "></" ++ n) (codes ">"))) ∙ shuts_tagged p (s ++ (codes "></" ++ n))

-- marks that come behind a `<`: every indent in them stands behind a `>`, and a `>` stands last
pub record Rest (ms : List Mark) : Type 0 where
  pub led : (p : Bool) → led p ms ≡ true
  pub shut : (p : Bool) → shuts p ms ≡ true

pub rest_tagged : (s : Bytes) → Rest (tagged (s ++ codes ">"))
rest_tagged s = record { led = λ p. led_tagged p (s ++ codes ">"); shut = λ p. shuts_tagged p s }

pub rest_empty : (f : EmptyElementHandling) (s n : Bytes) → Rest (tagged (s ++ shut f n))
rest_empty f s n = record { led = λ p. led_tagged p (s ++ shut f n); shut = λ p. shuts_shut p f s n }

pub rest_after_tagged : (s : Bytes) (ms : List Mark) → led true ms ≡ true → ((p : Bool) → shuts p ms ≡ true) → Rest (tagged (s ++ codes ">") ++ ms)
rest_after_tagged s ms l e =
    record { led = λ p. led-++ p (tagged (s ++ codes ">")) ms (led_tagged p (s ++ codes ">")) (ap (λ q. led q ms) (shuts_tagged p s) ∙ l); shut = λ p. shuts-++ p (tagged (s ++ codes ">")) ms ∙ e (shuts p (tagged (s ++ codes ">"))) }

pub rest_text : (n s : Bytes) → Rest (text_element n s)
rest_text n s =
    let e = rest_tagged (codes "</" ++ n) in
    rest_after_tagged n (texted s ++ tagged (codes "</" ++ (n ++ codes ">"))) (led-++ true (texted s) (tagged (codes "</" ++ (n ++ codes ">"))) (led_texted true s) (e.led (shuts true (texted s)))) (λ p. shuts-++ p (texted s) (tagged (codes "</" ++ (n ++ codes ">"))) ∙ e.shut (shuts p (texted s)))

-- children, which come behind the `>` of their record's start tag: a `>` stands last before the next, unless a text does
pub record Good (b : Body) : Type 0 where
  pub led : led true b.kids ≡ true
  pub last : b.wordy ≡ false → shuts true b.kids ≡ true

-- the `<` of a tag has an indent only where no text stands last, so behind a `>`
led_less : (a w p : Bool) (d : ℕ) (ms : List Mark) → (w ≡ false → p ≡ true) → ((q : Bool) → led q ms ≡ true) → led p (less_than (a && not w) d ∷ ms) ≡ true
led_less true true p d ms h l = l false
led_less true false p d ms h l = and_from p (led false ms) (h refl) (l false)
led_less false w p d ms h l = l false

shuts_less : (a p : Bool) (d : ℕ) (ms : List Mark) → ((q : Bool) → shuts q ms ≡ true) → shuts p (less_than a d ∷ ms) ≡ true
shuts_less true p d ms h = h false
shuts_less false p d ms h = h false

-- a tag behind good children
pub led_tag : {b : Body} {ms : List Mark} (a : Bool) (d : ℕ) → Good b → Rest ms → led true (b.kids ++ (less_than (a && not b.wordy) d ∷ ms)) ≡ true
led_tag {b} {ms} a d g r = led-++ true b.kids (less_than (a && not b.wordy) d ∷ ms) g.led (led_less a b.wordy (shuts true b.kids) d ms g.last r.led)

pub shuts_tag : (b : Body) {ms : List Mark} (a : Bool) (d : ℕ) → Rest ms → (p : Bool) → shuts p (b.kids ++ (less_than (a && not b.wordy) d ∷ ms)) ≡ true
shuts_tag b {ms} a d r p = shuts-++ p b.kids (less_than (a && not b.wordy) d ∷ ms) ∙ shuts_less (a && not b.wordy) (shuts p b.kids) d ms r.shut

pub good_tag : {b : Body} {ms : List Mark} (a : Bool) (d : ℕ) → Good b → Rest ms → Good (with_tag b (less_than (a && not b.wordy) d ∷ ms))
good_tag {b} a d g r = record { led = led_tag a d g r; last = λ e. shuts_tag b a d r true }

pub good_text : {b : Body} (s : Bytes) → Good b → Good (with_text b s)
good_text {b} [] g = subst (λ (x : List Mark). Good (record { kids = x; flag = b.flag; wordy = b.wordy })) (sym (append-nil b.kids)) g
good_text {b} (c ∷ s) g =
    record { led = led-++ true b.kids (texted (c ∷ s)) g.led (led_texted false s); last = λ e. absurd (true≢false e) }

-- what stands before an indent ends in a `>`
led_at : (p : Bool) (front rest : List Mark) (d : ℕ) → led p (front ++ (lead d ∷ rest)) ≡ true → shuts p front ≡ true
led_at p [] rest d h = (and_parts p (led false rest) h).0
led_at p (m ∷ front) rest d h = led_at (closes m) front rest d (and_parts (leads_from p m) (led (closes m) (front ++ (lead d ∷ rest))) h).1

shuts_last : (m : Mark) (xs : List Mark) → shuts (closes m) xs ≡ true → (ys : List Mark) × (m ∷ xs ≡ ys ++ (tag_byte 62 ∷ []))
shuts_last (tag_byte b) [] h = ([], ap (λ x. tag_byte x ∷ []) (eqb-true b 62 h))
shuts_last (text_byte b) [] h = absurd (false≢true h)
shuts_last (lead d) [] h = absurd (false≢true h)
shuts_last m (x ∷ xs) h = let r = shuts_last x xs h in (m ∷ r.0, ap (λ y. m ∷ y) r.1)

pub led_behind : (ms : List Mark) → led false ms ≡ true → (front rest : List Mark) (d : ℕ) → ms ≡ front ++ (lead d ∷ rest) → (x : List Mark) × (front ≡ x ++ (tag_byte 62 ∷ []))
led_behind ms h [] rest d e = absurd (false≢true (led_at false [] rest d (ap (led false) (sym e) ∙ h)))
led_behind ms h (m ∷ front) rest d e = shuts_last m front (led_at false (m ∷ front) rest d (ap (led false) (sym e) ∙ h))

pub led_no_text : (ms : List Mark) → led false ms ≡ true → (front rest : List Mark) (b d : ℕ) → ms ≡ front ++ (text_byte b ∷ lead d ∷ rest) → ⊥
led_no_text ms h front rest b d e =
    let q : ms ≡ (front ++ (text_byte b ∷ [])) ++ (lead d ∷ rest) = e ∙ sym (append_assoc front (text_byte b ∷ []) (lead d ∷ rest)) in
    let s : shuts false (front ++ (text_byte b ∷ [])) ≡ true = led_at false (front ++ (text_byte b ∷ [])) rest d (ap (led false) (sym q) ∙ h) in
    false≢true (sym (shuts-++ false front (text_byte b ∷ [])) ∙ s)
