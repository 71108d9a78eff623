-- What is written: the stage is its layout, and where a text's byte stands last in it.
use Rattle.std.proofs.Common.{◌≡◌, ℕ, Bool, true, false, cond, not, ◌||◌, List, [], ◌∷◌, ◌++◌, length, codes, Option, sym, refl, ap, ◌∙◌, append_assoc}
use Rattle.style.specs.declared.indentation.Indentation.{Indentation}
use Rattle.style.specs.declared.style.EmptyElementHandling.{EmptyElementHandling}
use Rattle.reader.specs.Trees.{Bytes}
use Rattle.model.specs.Strings.{null}
use Rattle.model.specs.Marks.{Mark, tag_byte, text_byte, lead, tagged, texted, less_than, flatten, bytes_of_mark, shut, empty_element, text_element}
use Rattle.model.specs.Model.{Body, Level, Row, Outer, State, idle, between, inside, quote, complete, start, child_start}
use Rattle.model.specs.Step.{end_tag, no_kids, closed_record}
use Rattle.model.specs.Layout.{stage, open_tag, below, tag_end, pending}
use Rattle.model.specs.Flags.{open_marks, around, sheet, written, text_last}
use Rattle.model.proofs.Flatten.{flatten-++, flatten_tagged}

-- the stage is the layout of what is written
module _ (i : Option Indentation) where
  flat_open : (l : Level) (ls : List Outer) (ms : List Mark) → flatten i (open_marks l ls ++ ms) ≡ open_tag i l ls ++ flatten i ms
  flat_open l ls ms =
      let m = bytes_of_mark i (start ls) in
      flatten-++ i (open_marks l ls) ms ∙ ap (λ z. (m ++ z) ++ flatten i ms) (flatten_tagged i (l.name ++ l.attrs))

  flat_around : (ls : List Outer) → flatten i (around ls) ≡ below i ls
  flat_around [] = refl
  flat_around (o ∷ os) =
      flatten-++ i (around os) (open_marks o.level os ++ o.level.body.kids) ∙ (ap (λ z. z ++ flatten i (open_marks o.level os ++ o.level.body.kids)) (flat_around os) ∙ ap (λ z. below i os ++ z) (flat_open o.level os o.level.body.kids))

  flat_sheet : (l : Level) (ls : List Outer) (p : Bytes) → flatten i (sheet l ls p) ≡ tag_end i l ls p ++ flatten i l.body.kids
  flat_sheet l ls p =
      let k = flatten i l.body.kids in
      let q : flatten i (tagged p ++ l.body.kids) ≡ p ++ k = flatten-++ i (tagged p) l.body.kids ∙ ap (λ z. z ++ k) (flatten_tagged i p) in
      let r : flatten i (sheet l ls p) ≡ below i ls ++ (open_tag i l ls ++ (p ++ k)) = flatten-++ i (around ls) (open_marks l ls ++ (tagged p ++ l.body.kids)) ∙ (ap (λ z. z ++ flatten i (open_marks l ls ++ (tagged p ++ l.body.kids))) (flat_around ls) ∙ ap (λ z. below i ls ++ z) (flat_open l ls (tagged p ++ l.body.kids) ∙ ap (λ z. open_tag i l ls ++ z) q)) in
      r ∙ sym (append_assoc (below i ls) (open_tag i l ls ++ p) k ∙ ap (λ z. below i ls ++ z) (append_assoc (open_tag i l ls) p k))

  pub laid : (st : State) → flatten i (written st) ≡ stage i st
  laid idle = refl
  laid (between l ls) = flat_sheet l ls []
  laid (inside s rs l ls) = flat_sheet l ls []
  laid (quote q l ls) = flat_sheet l ls (pending q)
  laid (complete ms) = refl

-- marks behind the children stand behind all
pub behind_all : (a o k ms : List Mark) → (a ++ (o ++ k)) ++ ms ≡ a ++ (o ++ (k ++ ms))
behind_all a o k ms = append_assoc a (o ++ k) ms ∙ ap (λ z. a ++ z) (append_assoc o k ms)

pub last-++ : (t : Bool) (xs ys : List Mark) → text_last t (xs ++ ys) ≡ text_last (text_last t xs) ys
last-++ t [] ys = refl
last-++ t (tag_byte b ∷ xs) ys = last-++ false xs ys
last-++ t (text_byte b ∷ xs) ys = last-++ true xs ys
last-++ t (lead d ∷ xs) ys = last-++ false xs ys

-- behind a text, and behind a tag
pub last_texted : (t : Bool) (s : Bytes) → not (null s) || t ≡ text_last t (texted s)
last_texted t [] = refl
last_texted t (b ∷ []) = refl
last_texted t (b ∷ c ∷ s) = last_texted true (c ∷ s)

pub last_tagged : (s : Bytes) → text_last false (tagged s) ≡ false
last_tagged [] = refl
last_tagged (b ∷ s) = last_tagged s

last_less : (g t : Bool) (d : ℕ) (ms : List Mark) → text_last t (less_than g d ∷ ms) ≡ text_last false ms
last_less true t d ms = refl
last_less false t d ms = refl

last_start : (ls : List Outer) (t : Bool) (ms : List Mark) → text_last t (start ls ∷ ms) ≡ text_last false ms
last_start [] t ms = refl
last_start (o ∷ os) t ms = last_less _ t _ ms

pub last_empty : (f : EmptyElementHandling) (rs : List Row) (b : Body) (d : ℕ) (n : Bytes) (t : Bool) → text_last t (child_start rs b d ∷ empty_element f n) ≡ false
last_empty f rs b d n t = last_less _ t d (empty_element f n) ∙ last_tagged (n ++ shut f n)

pub last_around : (rs : List Row) (b : Body) (d : ℕ) (n s : Bytes) (t : Bool) → text_last t (child_start rs b d ∷ text_element n s) ≡ false
last_around rs b d n s t =
    let e = codes "/" ++ (n ++ codes ">") in
    let x = texted s ++ (tag_byte 60 ∷ tagged e) in
    last_less _ t d (text_element n s) ∙ (last-++ false (tagged (n ++ codes ">")) x ∙ (last-++ (text_last false (tagged (n ++ codes ">"))) (texted s) (tag_byte 60 ∷ tagged e) ∙ last_tagged e))

-- open tags and what stands of an attribute are no text
pub last_sheet : (l : Level) (ls : List Outer) (a : Bytes) → text_last false (sheet l ls a) ≡ text_last false l.body.kids
last_sheet l ls a =
    let x = tagged (l.name ++ l.attrs) ++ (tagged a ++ l.body.kids) in
    let p : text_last false x ≡ text_last false l.body.kids = last-++ false (tagged (l.name ++ l.attrs)) (tagged a ++ l.body.kids) ∙ (ap (λ t. text_last t (tagged a ++ l.body.kids)) (last_tagged (l.name ++ l.attrs)) ∙ (last-++ false (tagged a) l.body.kids ∙ ap (λ t. text_last t l.body.kids) (last_tagged a))) in
    last-++ false (around ls) (start ls ∷ x) ∙ (last_start ls (text_last false (around ls)) x ∙ p)

-- and a closed record ends in a tag
pub last_closed : (f : EmptyElementHandling) (l : Level) (ls : List Outer) (t : Bool) → text_last t (closed_record f (length ls) (start ls) l) ≡ false
last_closed f l ls t = last_start ls t _ ∙ go (no_kids l.body.kids)
  where
    go : (q : Bool) → text_last false (cond q (tagged (l.name ++ (l.attrs ++ shut f l.name))) (tagged (l.name ++ (l.attrs ++ codes ">")) ++ (l.body.kids ++ end_tag (length ls) l))) ≡ false
    go true = last_tagged (l.name ++ (l.attrs ++ shut f l.name))
    go false =
        let e = codes "/" ++ (l.name ++ codes ">") in
        let o = tagged (l.name ++ (l.attrs ++ codes ">")) in
        last-++ false o (l.body.kids ++ end_tag (length ls) l) ∙ (last-++ (text_last false o) l.body.kids (end_tag (length ls) l) ∙ (last_less _ _ (length ls) (tagged e) ∙ last_tagged e))
