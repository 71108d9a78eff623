-- Escaped bytes say the value, and only the value, for every rule that keeps its laws. Assumes nothing.
use Rattle.std.proofs.Common.{◌≡◌, ℕ, Bool, true, false, cond, not, eqb, ◌≢◌, List, [], ◌∷◌, ◌++◌, Some, None, codes, Option, sym, refl, ap, ◌∙◌, subst}
use Rattle.std.specs.Str.{bytes_eq}
use Rattle.std.proofs.lemmas.Bool.{and_from, and_parts, ne_eqb, not_from_false, not-true}
use Rattle.xml.specs.declared.escape.Use.{Use}
use Rattle.xml.specs.declared.escape.Use.TheVariants.{Text, Attribute, TextItem, AttributeItem}
use Rattle.xml.specs.Escaping.{among, replacement, must, escaped, Lawful}
use Rattle.xml.specs.Reading.{lines, Reference, lt, gt, apos, amp, quot, tab, line_feed, carriage_return, space, CharData, text_end, text_raw, text_reference, value_byte, AttValue, value_end, value_raw, value_reference}
use Rattle.xml.specs.Back.{barred, free, ReadsBack}
use Rattle.xml.specs.Levels.{of_all}
use Rattle.xml.proofs.Nine.{nine_reference, inside}
use Rattle.xml.proofs.Free.{apart, begins_not, raw_is_none, raw_is_not, free_escaped}

-- without a carriage return, line ends are as they were
pub lines_same : (bs : List ℕ) → free (13 ∷ []) bs ≡ true → lines bs ≡ bs
lines_same [] h = refl
lines_same (b ∷ bs) h =
    let p = and_parts (not (among b (13 ∷ []))) (free (13 ∷ []) bs) h in
    rw (apart b 13 (13 ∷ []) (not-true (among b (13 ∷ [])) p.0) refl) (ap (λ l. b ∷ l) (lines_same bs p.1))

-- A text is read back where & < and > are asked for, a value where & < " tab and line feed are.
module _ {u : Use} {chosen : ℕ → Bool} (law : Lawful u chosen) where
  text_back : inside (38 ∷ 60 ∷ 62 ∷ []) (must u) ≡ true → (value : List ℕ) → CharData (escaped chosen value) value
  text_back i [] = text_end
  text_back i (b ∷ bs) = one (chosen b) refl (text_back i bs)
    where
      asks : (x : ℕ) → among x (38 ∷ 60 ∷ 62 ∷ []) ≡ true → among x (must u) ≡ true
      asks x = of_all (λ x. among x (must u)) (38 ∷ 60 ∷ 62 ∷ []) x i

      one : (t : Bool) → chosen b ≡ t → CharData (escaped chosen bs) bs → CharData (cond t (replacement b) (b ∷ []) ++ escaped chosen bs) (b ∷ bs)
      one true e rest = text_reference (nine_reference b (law.within b e)) rest
      one false e rest =
          let asked = and_from (among 62 (must u)) true (asks 62 refl) refl in
          let none = and_from (not (among b (62 ∷ []))) (free (62 ∷ []) (escaped chosen bs)) (not_from_false (among b (62 ∷ [])) (raw_is_none law b (62 ∷ []) asked e)) (free_escaped law (62 ∷ []) asked refl bs) in
          text_raw (raw_is_not law b 60 (asks 60 refl) e) (raw_is_not law b 38 (asks 38 refl) e) (begins_not (62 ∷ []) (codes "]]>") (b ∷ escaped chosen bs) refl none) rest

  pub value_back : inside (38 ∷ 60 ∷ 34 ∷ 9 ∷ 10 ∷ []) (must u) ≡ true → (value : List ℕ) → AttValue (escaped chosen value) value
  value_back i [] = value_end
  value_back i (b ∷ bs) = one (chosen b) refl (value_back i bs)
    where
      asks : (x : ℕ) → among x (38 ∷ 60 ∷ 34 ∷ 9 ∷ 10 ∷ []) ≡ true → among x (must u) ≡ true
      asks x = of_all (λ x. among x (must u)) (38 ∷ 60 ∷ 34 ∷ 9 ∷ 10 ∷ []) x i

      one : (t : Bool) → chosen b ≡ t → AttValue (escaped chosen bs) bs → AttValue (cond t (replacement b) (b ∷ []) ++ escaped chosen bs) (b ∷ bs)
      one true e rest = value_reference (nine_reference b (law.within b e)) rest
      one false e rest =
          let not-tab = ne_eqb b 9 (raw_is_not law b 9 (asks 9 refl) e) in
          let not-Line = ne_eqb b 10 (raw_is_not law b 10 (asks 10 refl) e) in
          let itself : value_byte b ≡ b = rw (not-tab, not-Line) in
          subst (λ c. AttValue (b ∷ escaped chosen bs) (c ∷ bs)) itself
          (value_raw (raw_is_not law b 60 (asks 60 refl) e) (raw_is_not law b 38 (asks 38 refl) e) (raw_is_not law b 34 (asks 34 refl) e) rest)

-- A scanner that checks nothing, but agrees with every reading: so there is only one.
-- It collects the name of a reference between & and ;, and reads any other byte by f.
meant : List ℕ → ℕ
meant name =
    cond (bytes_eq name (codes "lt")) 60 (cond (bytes_eq name (codes "gt")) 62 (cond (bytes_eq name (codes "apos")) 39 (cond (bytes_eq name (codes "amp")) 38 (cond (bytes_eq name (codes "quot")) 34 (cond (bytes_eq name (codes "#9")) 9 (cond (bytes_eq name (codes "#10")) 10 (cond (bytes_eq name (codes "#13")) 13 32)))))))

scan : (ℕ → ℕ) → Option (List ℕ) → List ℕ → List ℕ
scan f name [] = []
scan f None (b ∷ bs) = cond (eqb b 38) (scan f (Some []) bs) (f b ∷ scan f None bs)
scan f (Some name) (b ∷ bs) = cond (eqb b 59) (meant name ∷ scan f None bs) (scan f (Some (name ++ b ∷ [])) bs)

scan_reference : (f : ℕ → ℕ) {r : List ℕ} {b : ℕ} → Reference r b → (raw : List ℕ) → scan f None (r ++ raw) ≡ b ∷ scan f None raw
unfolding scan meant
scan_reference f lt raw = refl
scan_reference f gt raw = refl
scan_reference f apos raw = refl
scan_reference f amp raw = refl
scan_reference f quot raw = refl
scan_reference f tab raw = refl
scan_reference f line_feed raw = refl
scan_reference f carriage_return raw = refl
scan_reference f space raw = refl

scan_raw : (f : ℕ → ℕ) (b : ℕ) (raw : List ℕ) → b ≢ 38 → scan f None (b ∷ raw) ≡ f b ∷ scan f None raw
unfolding scan
scan_raw f b raw h = rw (ne_eqb b 38 h)

scan_text : {raw value : List ℕ} → CharData raw value → scan (λ b. b) None raw ≡ value
unfolding scan
scan_text text_end = refl
scan_text (text_raw {b} {raw} x y z rest) = scan_raw (λ b. b) b raw y ∙ ap (λ l. b ∷ l) (scan_text rest)
scan_text (text_reference {b = b} {raw = raw} r rest) = scan_reference (λ b. b) r raw ∙ ap (λ l. b ∷ l) (scan_text rest)

scan_value : {raw value : List ℕ} → AttValue raw value → scan value_byte None raw ≡ value
unfolding scan
scan_value value_end = refl
scan_value (value_raw {b} {raw} x y z rest) = scan_raw value_byte b raw y ∙ ap (λ l. value_byte b ∷ l) (scan_value rest)
scan_value (value_reference {b = b} {raw = raw} r rest) = scan_reference value_byte r raw ∙ ap (λ l. b ∷ l) (scan_value rest)

one_text : {raw value other : List ℕ} → CharData raw value → CharData raw other → other ≡ value
one_text c d = sym (scan_text d) ∙ scan_text c

one_value : {raw value other : List ℕ} → AttValue raw value → AttValue raw other → other ≡ value
one_value c d = sym (scan_value d) ∙ scan_value c

-- What is written for a use reads back, by the way that use is read.
module _ {u : Use} {chosen : ℕ → Bool} (law : Lawful u chosen) (value : List ℕ) where
  raw_lines : inside (13 ∷ []) (must u) ≡ true → escaped chosen value ≡ lines (escaped chosen value)
  raw_lines i = sym (lines_same (escaped chosen value) (free_escaped law (13 ∷ []) i refl value))

  text_reads : inside (38 ∷ 60 ∷ 62 ∷ []) (must u) ≡ true → inside (13 ∷ []) (must u) ≡ true → CharData (lines (escaped chosen value)) value
  text_reads i j = subst (λ raw. CharData raw value) (raw_lines j) (text_back law i value)

  value_reads : inside (38 ∷ 60 ∷ 34 ∷ 9 ∷ 10 ∷ []) (must u) ≡ true → inside (13 ∷ []) (must u) ≡ true → AttValue (lines (escaped chosen value)) value
  value_reads i j = subst (λ raw. AttValue raw value) (raw_lines j) (value_back law i value)

pub reads_back : (u : Use) {chosen : ℕ → Bool} → Lawful u chosen → (value : List ℕ) → ReadsBack u (escaped chosen value) value
reads_back Text law value =
    let back = text_reads law value refl refl in
    record { reads = back; only = λ other. one_text back; clean = free_escaped law (barred Text) refl refl value }
reads_back Attribute law value =
    let back = value_reads law value refl refl in
    record { reads = back; only = λ other. one_value back; clean = free_escaped law (barred Attribute) refl refl value }
reads_back TextItem law value =
    let back = text_reads law value refl refl in
    record { reads = back; only = λ other. one_text back; clean = free_escaped law (barred TextItem) refl refl value }
reads_back AttributeItem law value =
    let back = value_reads law value refl refl in
    record { reads = back; only = λ other. one_value back; clean = free_escaped law (barred AttributeItem) refl refl value }
