-- A record is closed: its bytes on the stage, and what is open then. Assumes nothing.
use Rattle.std.proofs.Common.{◌≡◌, ℕ, zero, suc, ◌-◌, ◌<◌, false, cond, not, ◌&&◌, List, [], ◌∷◌, ◌++◌, length, codes, Option, sym, refl, ap, ◌∙◌, subst, append_assoc, arith}
use Rattle.std.proofs.lemmas.List.{append-nil, length-append, length_push}
use Rattle.style.specs.declared.indentation.Indentation.{Indentation}
use Rattle.style.specs.declared.result.WriteResult.TheVariants.{Element as element_result}
use Rattle.style.specs.declared.style.EmptyElementHandling.{EmptyElementHandling}
use Rattle.model.specs.declared.frame.Frame.{Frame}
use Rattle.model.specs.Marks.{Mark, tag_byte, text_byte, lead, indent, bytes_of_mark, less_than, flatten, tagged, shut}
use Rattle.model.specs.Model.{Level, Outer, element, between, inside, start}
use Rattle.model.specs.Step.{with_body, with_tag, no_kids, end_tag, closed_record, close}
use Rattle.model.specs.Layout.{stage, below, open_tag, tag_end, record_frame, outer_frames, row_frames}
use Rattle.model.proofs.Flatten.{flatten-++, flatten_tagged}
use Rattle.engine.specs.Frames.{settled_frame}
use Rattle.engine.specs.Memory.{Buf, Mem, popped, counted, worded, top_frame}
use Rattle.engine.specs.Lays.{Front, Past, Nested, outer_stacks, Holds, Lays, Beyond}
use Rattle.engine.proofs.Fronts.{front_length, front_as, front_cut, past_cut, past_set}
use Rattle.engine.proofs.Settling.{lays_settle}
use Rattle.engine.proofs.Values.{stage_settle}
use Rattle.nests.proofs.Leaving.{front_pop}
use Rattle.closing.specs.Ends.{left_root, left_inner, Left}

-- the bytes of the end tag
abbrev pub end_bytes : Option Indentation → ℕ → Level → List ℕ
end_bytes i d l = bytes_of_mark i (less_than (l.body.flag && not l.body.wordy) d) ++ (codes "/" ++ (l.name ++ codes ">"))

regroup_empty : (a m n t s : List ℕ) → ((a ++ ((m ++ (n ++ t)) ++ [])) ++ []) ++ s ≡ a ++ (m ++ (n ++ (t ++ s)))
regroup_empty a m n t s = simp (append_assoc, append-nil)

regroup_full : (a m n t g k e : List ℕ) → ((a ++ ((m ++ (n ++ t)) ++ [])) ++ (g ++ k)) ++ e ≡ a ++ (m ++ ((n ++ (t ++ g)) ++ (k ++ e)))
regroup_full a m n t g k e = simp (append_assoc, append-nil)

regroup_around : (a b k c : List ℕ) → (a ++ (b ++ k)) ++ c ≡ (a ++ (b ++ [])) ++ (k ++ c)
regroup_around a b k c = simp (append_assoc, append-nil)

-- no child bytes: an empty tag
pub closed_empty : (i : Option Indentation) (f : EmptyElementHandling) (l : Level) (ls : List Outer) → l.body.kids ≡ [] → stage i (between l ls) ++ shut f l.name ≡ below i ls ++ flatten i (closed_record f (length ls) (start ls) l)
closed_empty i f l ls e =
    let m = bytes_of_mark i (start ls) in
    let whole = l.name ++ (l.attrs ++ shut f l.name) in
    ap (λ k. (tag_end i l ls [] ++ flatten i k) ++ shut f l.name) e
    ∙ regroup_empty (below i ls) m l.name l.attrs (shut f l.name)
    ∙ ap (λ z. below i ls ++ (m ++ z)) (sym (flatten_tagged i whole))
    ∙ ap (λ k. below i ls ++ (m ++ flatten i (cond (no_kids k) (tagged whole) (tagged (l.name ++ (l.attrs ++ codes ">")) ++ (l.body.kids ++ end_tag (length ls) l))))) (sym e)

-- children between two tags
pub closed_full : (i : Option Indentation) (f : EmptyElementHandling) (l : Level) (ls : List Outer) → no_kids l.body.kids ≡ false → (tag_end i l ls [] ++ (codes ">" ++ flatten i l.body.kids)) ++ end_bytes i (length ls) l ≡ below i ls ++ flatten i (closed_record f (length ls) (start ls) l)
closed_full i f l ls e =
    let m = bytes_of_mark i (start ls) in
    let front = l.name ++ (l.attrs ++ codes ">") in
    let kids = l.body.kids in
    let less = less_than (l.body.flag && not l.body.wordy) (length ls) in
    let back : flatten i (end_tag (length ls) l) ≡ end_bytes i (length ls) l = ap (λ z. bytes_of_mark i less ++ z) (flatten_tagged i (codes "/" ++ (l.name ++ codes ">"))) in
    let inner : flatten i (tagged front ++ (kids ++ end_tag (length ls) l)) ≡ front ++ (flatten i kids ++ end_bytes i (length ls) l) =
    flatten-++ i (tagged front) (kids ++ end_tag (length ls) l) ∙ ap (λ z. z ++ flatten i (kids ++ end_tag (length ls) l)) (flatten_tagged i front) ∙ ap (λ z. front ++ z) (flatten-++ i kids (end_tag (length ls) l) ∙ ap (λ z. flatten i kids ++ z) back) in
    regroup_full (below i ls) m l.name l.attrs (codes ">") (flatten i kids) (end_bytes i (length ls) l)
    ∙ ap (λ z. below i ls ++ (m ++ z)) (sym inner)
    ∙ ap (λ b. below i ls ++ (m ++ flatten i (cond b (tagged (l.name ++ (l.attrs ++ shut f l.name))) (tagged front ++ (kids ++ end_tag (length ls) l))))) (sym e)

-- each mark has a byte
mark_long : (i : Option Indentation) (m : Mark) → 0 < length (bytes_of_mark i m)
mark_long i (tag_byte b) = omega arith
mark_long i (text_byte b) = omega arith
mark_long i (lead d) = omega (arith, length-append (indent i d) (codes "<"))

pub kids_none : (i : Option Indentation) (ms : List Mark) → length (flatten i ms) ≡ 0 → ms ≡ []
kids_none i [] e = refl
kids_none i (m ∷ ms) e = absurd (omega (arith, e, mark_long i m, length-append (bytes_of_mark i m) (flatten i ms)))

pub kids_some : (i : Option Indentation) (ms : List Mark) → 0 < length (flatten i ms) → no_kids ms ≡ false
kids_some i [] h = absurd (omega (arith, h))
kids_some i (m ∷ ms) h = refl

-- the memory with the bytes of a closed record on its stage, before the record is left
pub record Closed (w : Mem) (f : EmptyElementHandling) (l : Level) (ls : List Outer) (g : Frame) : Type 0 where
  pub stage : Front w.stage (below w.indentation ls ++ flatten w.indentation (closed_record f (length ls) (start ls) l))
  pub names : Front w.names (l.under ++ l.name)
  pub frames : Front w.frames (outer_frames w.indentation ls ++ (g ∷ []))
  pub records : w.records ≡ suc (length ls)
  pub fit : Nested (l.under ++ l.name) (outer_stacks ls)

-- the root is complete
pub lays_root : (w : Mem) (f : EmptyElementHandling) (l : Level) (g : Frame) → Closed w f l [] g → Lays (close f l []) (left_root w)
lays_root w f l g c =
    record {
      holds = record {
        stage = c.stage;
        names = front_cut w.names (l.under ++ l.name) [] 0 refl refl c.names;
        frames = front_cut w.frames (g ∷ []) [] 0 refl refl c.frames;
        records = refl;
        wordy = tt;
        fit = tt;
      };
      place = refl;
    }

-- any other record is an element in the one around it
pub lays_inner : (w : Mem) (f : EmptyElementHandling) (l : Level) (o : Outer) (os : List Outer) (g : Frame) → Closed w f l (o ∷ os) g → Lays (close f l (o ∷ os)) (left_inner w)
lays_inner w f l o os g c =
    let i = w.indentation in
    let ms = closed_record f (length (o ∷ os)) (start (o ∷ os)) l in
    let p = with_body o.level (with_tag o.level.body ms) in
    let kids = o.level.body.kids in
    let v = worded false (counted (w.records - 1) (popped w)) in
    let xs = outer_frames i (o ∷ os) in
    let same : below i (o ∷ os) ++ flatten i ms ≡ stage i (between p os) =
    regroup_around (below i os) (open_tag i o.level os) (flatten i kids) (flatten i ms) ∙ ap (λ z. tag_end i o.level os [] ++ z) (sym (flatten-++ i kids ms)) in
    let h : Holds (inside (element l.under l.name) o.rows p os) v =
    record {
      stage = front_as w.stage (below i (o ∷ os) ++ flatten i ms) (stage i (between p os)) same c.stage;
      names = c.names;
      frames = front_as (popped w).frames xs (outer_frames i os ++ (record_frame i p os [] ∷ (row_frames o.rows ++ []))) (ap (λ z. outer_frames i os ++ (record_frame i p os [] ∷ z)) (sym (append-nil (row_frames o.rows)))) (front_pop w.frames xs g c.frames);
      records = omega (arith, c.records);
      wordy = refl;
      fit = c.fit;
    } in
    lays_settle element_result (element l.under l.name) o.rows p os v refl h

-- the bytes of the stage once a record is closed
pub stage_close : (i : Option Indentation) (f : EmptyElementHandling) (l : Level) (ls : List Outer) → stage i (close f l ls) ≡ below i ls ++ flatten i (closed_record f (length ls) (start ls) l)
stage_close i f l [] = refl
stage_close i f l (o ∷ os) =
    let ms = closed_record f (length (o ∷ os)) (start (o ∷ os)) l in
    let kids = o.level.body.kids in
    stage_settle i element_result o.rows (with_body o.level (with_tag o.level.body ms)) os
    ∙ sym (regroup_around (below i os) (open_tag i o.level os) (flatten i kids) (flatten i ms) ∙ ap (λ z. tag_end i o.level os [] ++ z) (sym (flatten-++ i kids ms)))

-- the record is left, from memory in which its bytes stand
pub lays_left : (x v : Mem) (f : EmptyElementHandling) (l : Level) (ls : List Outer) (g : Frame) → Closed x f l ls g → Left x v → Lays (close f l ls) v
lays_left x v f l [] g c y = subst (λ k. Lays (close f l []) k) (sym (y.0 (front_length x.frames (g ∷ []) c.frames))) (lays_root x f l g c)
lays_left x v f l (o ∷ os) g c y =
    let i = x.indentation in
    let deep : 1 < x.frames.used = omega (arith, front_length x.frames (outer_frames i (o ∷ os) ++ (g ∷ [])) c.frames, length_push (outer_frames i (o ∷ os)) g, length-append (outer_frames i os) (record_frame i o.level os [] ∷ row_frames o.rows)) in
    subst (λ k. Lays (close f l (o ∷ os)) k) (sym (y.1 deep)) (lays_inner x f l o os g c)

-- the same slice, of which another part is in use
same_slice : {A : Type 0} (b c : Buf A) (k : ℕ) → c ≡ b → Past b (record c { used = k })
same_slice b c k e = subst (λ x. Past b (record x { used = k })) (sym e) (past_cut b k)

-- leaving changes nothing past the parts in use
pub beyond_left : (w x v : Mem) → Past w.stage x.stage → x.names ≡ w.names → x.frames ≡ w.frames → x.form ≡ w.form → x.indentation ≡ w.indentation → 0 < x.frames.used → Left x v → Beyond w v
beyond_left w x v s n f g i deep y = go x.frames.used refl deep
  where
    root : x.frames.used ≡ 1 → Beyond w v
    root e = subst (λ k. Beyond w k) (sym (y.0 e)) (record { stage = s; names = same_slice w.names x.names 0 n; frames = same_slice w.frames x.frames 0 f; form = g; indentation = i })

    inner : 1 < x.frames.used → Beyond w v
    inner h =
        let u = x.frames.used - 1 in
        let p = past_set x.frames (u - 1) u (settled_frame element_result (top_frame (popped x))) (omega (arith, h)) in
        let q = same_slice w.frames x.frames u f in
        let keep = (top_frame (popped x)).keep in
        subst (λ k. Beyond w k) (sym (y.1 h)) (record { stage = s; names = same_slice w.names x.names keep n; frames = record { size = p.size ∙ q.size; past = p.past ∙ q.past; rest = p.rest ∙ q.rest; reference = p.reference ∙ q.reference }; form = g; indentation = i })

    go : (k : ℕ) → x.frames.used ≡ k → 0 < k → Beyond w v
    go zero e h = absurd (omega (arith, h))
    go (suc zero) e h = root e
    go (suc (suc k)) e h = inner (omega (arith, e))
