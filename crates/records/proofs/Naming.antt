-- Values at a content place that bring a name: wrapped values and rows of variants. Assumes nothing.
use Rattle.std.proofs.Common.{◌≡◌, ℕ, ◌+◌, ◌<◌, Bool, true, false, cond, not, ◌⊎◌, List, [], ◌∷◌, ◌++◌, length, Some, None, Ok, Err, Result, sym, refl, ap, ◌∙◌, subst, ⊎_elim}
use Rattle.std.proofs.lemmas.Bool.{not_from_true, and_left, and_right}
use Rattle.refusal.specs.declared.Refusal.{Refusal}
use Rattle.xml.specs.Names.{name_fault}
use Rattle.model.specs.declared.place.Place.TheVariants.{Element, Content, Simple, TextItem}
use Rattle.model.specs.Strings.{utf8}
use Rattle.model.specs.Calls.{call_value, Value, val_wrapped, val_variant_row, is_text_name}
use Rattle.model.specs.Model.{Level, Row, named_row, Outer, element, content, simple, words, inside, stack, flag}
use Rattle.model.specs.Step.{on, opens_row, moved_if}
use Rattle.model.specs.Layout.{list_frame, row_frame}
use Rattle.model.specs.Frames.{named_frame}
use Rattle.model.specs.Grounds.{ill_formed, value_string, no_content, is_text, content_fault}
use Rattle.model.specs.Table.{verdict, next, or_stay, content_name}
use Rattle.engine.specs.Memory.{Mem, Safe, pushed, placed, name_put, top_frame}
use Rattle.engine.specs.Lays.{Lays, Beyond, setting, Told, Does}
use Rattle.engine.specs.Opening.{FrameFree, Named, Awaits}
use Rattle.engine.proofs.Begins.{lays_placed, same_frame, holds_name, lays_element, Names, names_clear, names_fit, named_told, awaits_told, unframed_told}
use Rattle.engine.proofs.Fronts.{front_length, begins_self, past_same}
use Rattle.engine.proofs.Telling.{Clear, told_small, told_ok, depth_is_free, sink_unasked}
use Rattle.engine.proofs.Spots.{on_content}
use Rattle.engine.proofs.Tops.{top_flag}
use Rattle.nests.specs.Frames.{Pushes}
use Rattle.nests.proofs.Pushing.{holds_row, holds_list, beyond_push}
use Rattle.nests.proofs.Rowing.{pushes_told}

-- a value that announces a text by the name for it, and else brings its name
pub record Announces (c : Value) (n : List ℕ) : Type 0 where
  pub string : value_string c ≡ n
  pub shape : no_content c ≡ false
  pub text : is_text c ≡ is_text_name n
  pub fault : content_fault c ≡ cond (is_text_name n) None (name_fault n)
  pub name : content_name c ≡ cond (is_text_name n) [] n

pub wrapped_announces : (n : List ℕ) → Announces (val_wrapped n) n
wrapped_announces n = record { string = refl; shape = refl; text = refl; fault = refl; name = refl }

pub row_announces : (n : List ℕ) → Announces (val_variant_row n) n
row_announces n = record { string = refl; shape = refl; text = refl; fault = refl; name = refl }

module _ (c : Value) (n : List ℕ) (p : Bool) (w : Mem) (a : Announces c n) (u : utf8 n ≡ true) (rs : List Row) (l : Level) (ls : List Outer) where
  fine : ill_formed (call_value c) ≡ false
  fine = not_from_true (utf8 (value_string c)) (ap utf8 a.string ∙ u)

  pub announced_name : is_text_name n ≡ false → Names (call_value c) (inside (content p) rs l ls) n w
  announced_name t =
      record {
        order = refl;
        bytes = fine;
        shape = a.shape;
        text = and_left (is_text c) (not p) (a.text ∙ t);
        fault = a.fault ∙ ap (λ b. cond b None (name_fault n)) t;
        brought = a.name ∙ ap (λ b. cond b [] n) t;
        handed = refl;
      }

  announced_text : is_text_name n ≡ true → p ≡ true → Clear (call_value c) (inside (content p) rs l ls)
  announced_text t q =
      record { order = refl; bytes = fine; shape = a.shape; text = and_right (is_text c) (not p) (ap not q); name = a.fault ∙ ap (λ b. cond b None (name_fault n)) t }

  no_name : is_text_name n ≡ true → content_name c ≡ []
  no_name t = a.name ∙ ap (λ b. cond b [] n) t

-- where a row of variants leads
row_goes : (n : List ℕ) (p : Bool) (w : Mem) (rs : List Row) (l : Level) (ls : List Outer) (b : Bool) → is_text_name n ≡ b → next w.form (call_value (val_variant_row n)) (inside (content p) rs l ls) ≡ or_stay (inside (content p) rs l ls) (moved_if rs l ls (Some (cond b (on (words false) l.body) (opens_row (named_row (stack rs l) n (flag rs l.body))))))
row_goes n p w rs l ls b t = ap (λ x. or_stay (inside (content p) rs l ls) (moved_if rs l ls (Some (cond x (on (words false) l.body) (opens_row (named_row (stack rs l) n (flag rs l.body))))))) t

module _ (room : ℕ) (w : Mem) (n : List ℕ) (p : Bool) (safe : Safe w) (at : w.place ≡ Content p) (u : utf8 n ≡ true) where
  -- a list, which is one text
  pub variants_list : (v : Mem) (r : Result (Unit {0}) Refusal) → is_text_name n ≡ true → p ≡ true → Pushes r list_frame (TextItem false) w v → Does (call_value (val_variant_row n)) room r w v
  variants_list v r t q y m lay = on_content (λ x. Told (verdict (setting w) room (call_value (val_variant_row n)) x) r w v) w p m lay at (λ rs l ls z.
      let c = val_variant_row n in
      let a = row_announces n in
      pushes_told room (call_value c) (inside (content p) rs l ls) w v r list_frame list_frame (TextItem false) (TextItem false)
      (record { clear = announced_text c n p w a u rs l ls t q; brought = no_name c n p w a u rs l ls t; takes = refl; handed = refl }) safe z.holds refl refl
      (λ free. subst (λ x. Lays x (placed (TextItem false) (pushed list_frame w))) (sym (row_goes n p w rs l ls true t)) (lays_placed (inside (words false) rs l ls) (TextItem false) (pushed list_frame w) refl (holds_list (content p) rs l ls w refl refl free z.holds))) y)

  -- a text, whose bytes come next
  pub wrapped_text : is_text_name n ≡ true → p ≡ true → Does (call_value (val_wrapped n)) room (Ok tt) w (placed Simple w)
  wrapped_text t q m lay = on_content (λ x. Told (verdict (setting w) room (call_value (val_wrapped n)) x) (Ok tt) w (placed Simple w)) w p m lay at (λ rs l ls z.
      let c = val_wrapped n in
      let a = wrapped_announces n in
      let h = z.holds in
      let goes : next w.form (call_value c) (inside (content p) rs l ls) ≡ inside simple rs l ls = ap (λ b. or_stay (inside (content p) rs l ls) (moved_if rs l ls (Some (cond b (on simple l.body) (on (element (stack rs l) n) l.body))))) t in
      told_small w room (call_value c) (inside (content p) rs l ls) (placed Simple w) (announced_text c n p w a u rs l ls t q)
      (record { brought = no_name c n p w a u rs l ls t; takes = refl; handed = refl }) safe h
      (subst (λ x. Lays x (placed Simple w)) (sym goes) (lays_placed (inside simple rs l ls) Simple w refl (record { stage = h.stage; names = h.names; frames = h.frames; records = h.records; wordy = h.wordy; fit = h.fit })))
      (record { stage = past_same w.stage; names = past_same w.names; frames = past_same w.frames; form = refl; indentation = refl }))

  module _ (t : is_text_name n ≡ false) where
    -- an element that is still to come
    pub wrapped_told : (v : Mem) (r : Result (Unit {0}) Refusal) → Awaits r n w v → Does (call_value (val_wrapped n)) room r w v
    wrapped_told v r y m lay = on_content (λ x. Told (verdict (setting w) room (call_value (val_wrapped n)) x) r w v) w p m lay at (λ rs l ls z.
        let c = val_wrapped n in
        let here = inside (content p) rs l ls in
        let goes : next w.form (call_value c) (inside (content p) rs l ls) ≡ inside (element (stack rs l) n) rs l ls = ap (λ b. or_stay (inside (content p) rs l ls) (moved_if rs l ls (Some (cond b (on simple l.body) (on (element (stack rs l) n) l.body))))) t in
        awaits_told room (call_value c) here n w (announced_name c n p w (wrapped_announces n) u rs l ls t) safe z.holds r v refl
        (λ fits. subst (λ x. Lays x (placed (Element w.names.used) (name_put n w))) (sym goes) (lays_element p rs l ls w n fits z.holds)) y)

    -- a row of elements: its name is refused, or no frame is free
    pub variants_refused : (e : Refusal) → Named {A = Unit {0}} (Err e) n w ⊎ (Named {A = Unit {0}} (Ok tt) n w × FrameFree (Err e) w) → Does (call_value (val_variant_row n)) room (Err e) w w
    variants_refused e y m lay = on_content (λ x. Told (verdict (setting w) room (call_value (val_variant_row n)) x) (Err e) w w) w p m lay at (λ rs l ls z.
        let c = call_value (val_variant_row n) in
        let here = inside (content p) rs l ls in
        let k = announced_name (val_variant_row n) n p w (row_announces n) u rs l ls t in
        ⊎_elim (named_told room c here n w k safe z.holds e) (λ d. unframed_told room c here n w k safe z.holds e refl d.0 d.1) y)

    pub variants_ok : (v : Mem) → Named {A = Unit {0}} (Ok tt) n w → w.frames.used < length w.frames.all → v ≡ placed (Element w.names.used) (pushed (named_frame (top_frame w).flag (w.names.used + length n) w.names.used) (name_put n w)) → Does (call_value (val_variant_row n)) room (Ok tt) w v
    variants_ok v y free is m lay = on_content (λ q. Told (verdict (setting w) room (call_value (val_variant_row n)) q) (Ok tt) w v) w p m lay at (λ rs l ls z.
        let c = call_value (val_variant_row n) in
        let here = inside (content p) rs l ls in
        let k = announced_name (val_variant_row n) n p w (row_announces n) u rs l ls t in
        let h = z.holds in
        let s = stack rs l in
        let f = flag rs l.body in
        let there = inside (element s n) (named_row s n f ∷ rs) l ls in
        let more = holds_name p rs l ls w n y.1 h in
        let used = front_length w.names s h.names in
        let frame : named_frame (top_frame w).flag (w.names.used + length n) w.names.used ≡ row_frame (named_row s n f) =
        same_frame (top_flag (content p) rs l ls w refl h) refl (front_length (name_put n w).names (s ++ n) more.names) used in
        let laid = lays_placed there (Element w.names.used) (pushed (row_frame (named_row s n f)) (name_put n w)) (ap Element used) (holds_row (element s n) (element s n) (named_row s n f) rs l ls (name_put n w) (name_put n w).names refl refl free more more.names (begins_self (s ++ n)) more.fit) in
        let whole_is : v ≡ placed (Element w.names.used) (pushed (row_frame (named_row (stack rs l) n (flag rs l.body))) (name_put n w)) = is ∙ ap (λ j. placed (Element w.names.used) (pushed j (name_put n w))) frame in
        told_ok w room c here v (names_clear room c here n w k safe h y.0) safe h (names_fit room c here n w k safe h y.1) (depth_is_free w room c here safe h.frames free) (sink_unasked w room c here refl)
        (subst (λ j. Lays j v) (sym (row_goes n p w rs l ls false t)) (subst (λ j. Lays there j) (sym whole_is) laid)) (subst (λ j. Beyond w j) (sym whole_is) (beyond_push w (row_frame (named_row s n f)) (Element w.names.used) n y.1)))
