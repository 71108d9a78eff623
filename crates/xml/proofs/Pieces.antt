-- A value written in runs: the bytes up to the next that is replaced at one stroke, and then the replacement. Assumes nothing.
use Rattle.std.proofs.Common.{◌≡◌, ℕ, ◌+◌, ◌≤◌, ◌<◌, ◌-◌, zero, suc, Bool, true, false, List, [], ◌∷◌, ◌++◌, length, get_or, take, drop, sym, refl, ap, ◌∙◌, subst, append-nil, arith, length-append}
use Rattle.std.proofs.lemmas.List.{take_more, take_all, append_assoc, take-append-drop, get_or-drop, length-drop}
use Rattle.std.proofs.Math.Seq.{take-add, take-append-add}
use Rattle.std.proofs.lemmas.Grind.{flat_map-append}
use Rattle.memory.specs.Laid.{laid}
use Rattle.memory.proofs.Laying.{laid-laid}
use Rattle.xml.specs.Escaping.{piece, replacement, escaped}

-- these bytes stand in `out` from `at` up to `end`; before the first, out was d
abbrev pub Placed : List ℕ → ℕ → List ℕ → ℕ → List ℕ → Type 0
Placed d at done end out = (end ≡ at + length done) × (out ≡ laid d at done)

pub placed_more : (d : List ℕ) (at : ℕ) (done s : List ℕ) → at + length done + length s ≤ length d → (end : ℕ) (out : List ℕ) → Placed d at done end out → (end' : ℕ) (out' : List ℕ) → end' ≡ end + length s → out' ≡ laid out end s → Placed d at (done ++ s) end' out'
placed_more d at done s fits end out p end' out' e q = (
  omega (arith, e, p.0, length-append done s),
  q ∙ ap (λ n. laid out n s) p.0 ∙ ap (λ l. laid l (at + length done) s) p.1 ∙ laid-laid d done s at fits,
)

-- bytes that stay, and more that do
pub stays_on : (p : ℕ → Bool) (xs : List ℕ) (i n : ℕ) → escaped p (take i xs) ≡ take i xs → escaped p (take n (drop i xs)) ≡ take n (drop i xs) → escaped p (take (i + n) xs) ≡ take (i + n) xs
stays_on p xs i n e h =
    let more = take-add i n xs in
    ap (escaped p) more ∙ flat_map-append (piece p) (take i xs) (take n (drop i xs)) ∙ ap (λ l. l ++ escaped p (take n (drop i xs))) e ∙ ap (λ l. take i xs ++ l) h ∙ sym more

pub stays_more : (p : ℕ → Bool) (xs : List ℕ) (i : ℕ) → i < length xs → escaped p (take i xs) ≡ take i xs → p (get_or xs i 0) ≡ false → escaped p (take (i + 1) xs) ≡ take (i + 1) xs
stays_more p xs i h e n =
    let x = get_or xs i 0 in
    let more = take_more xs i 0 h in
    ap (escaped p) more ∙ flat_map-append (piece p) (take i xs) (x ∷ []) ∙ ap (λ l. l ++ escaped p (x ∷ [])) e ∙ ap (λ l. take i xs ++ l) (rw n refl) ∙ sym more

-- as many bytes as are not replaced
all_stay : (p : ℕ → Bool) (xs : List ℕ) (n : ℕ) → n ≤ length xs → ((i : ℕ) → i < n → p (get_or xs i 0) ≡ false) → escaped p (take n xs) ≡ take n xs
all_stay p xs zero h f = refl
all_stay p xs (suc n) h f =
    let on : n + 1 ≡ suc n = omega arith in
    subst (λ k. escaped p (take k xs) ≡ take k xs) on (stays_more p xs n (omega (arith, h)) (all_stay p xs n (omega (arith, h)) (λ i l. f i (omega (arith, l)))) (f n (omega arith)))

-- as many of the first four
pub few_stay : (p : ℕ → Bool) (xs : List ℕ) (n : ℕ) → 4 ≤ length xs → n ≤ 4 → (0 < n → p (get_or xs 0 0) ≡ false) → (1 < n → p (get_or xs 1 0) ≡ false) → (2 < n → p (get_or xs 2 0) ≡ false) → (3 < n → p (get_or xs 3 0) ≡ false) → escaped p (take n xs) ≡ take n xs
few_stay p xs n h w a b c d = all_stay p xs n (omega (arith, h, w)) each
  where
    each : (i : ℕ) → i < n → p (get_or xs i 0) ≡ false
    each zero l = a l
    each (suc zero) l = b l
    each (suc (suc zero)) l = c l
    each (suc (suc (suc zero))) l = d l
    each (suc (suc (suc (suc i)))) l = absurd (omega (arith, w, l))

-- and where all four do, they stand in front of what is left
pub four_more : (p : ℕ → Bool) (xs done rest : List ℕ) → xs ≡ done ++ rest → escaped p done ≡ done → escaped p (take 4 rest) ≡ take 4 rest → (more : List ℕ) × (xs ≡ more ++ take (length rest - 4) (drop 4 rest)) × (escaped p more ≡ more)
four_more p xs done rest is e h =
    let back : take (length rest - 4) (drop 4 rest) ≡ drop 4 rest = take_all (length rest - 4) (drop 4 rest) (omega (arith, length-drop 4 rest)) in (
      done ++ take 4 rest,
      is ∙ ap (λ l. done ++ l) (sym (take-append-drop 4 rest)) ∙ sym (append_assoc done (take 4 rest) (drop 4 rest)) ∙ ap (λ l. (done ++ take 4 rest) ++ l) (sym back),
      flat_map-append (piece p) done (take 4 rest) ∙ ap (λ l. l ++ escaped p (take 4 rest)) e ∙ ap (λ l. done ++ l) h,
    )

-- bytes that stay, and of the rest so many more: counted from the front
pub front_stays : (p : ℕ → Bool) (xs done rest : List ℕ) → xs ≡ done ++ rest → escaped p done ≡ done → (n : ℕ) → escaped p (take n rest) ≡ take n rest → escaped p (take (length xs - length rest + n) xs) ≡ take (length xs - length rest + n) xs
front_stays p xs done rest is e n h =
    let size : length xs - length rest + n ≡ length done + n = omega (arith, ap length is, length-append done rest) in
    let front : take (length xs - length rest + n) xs ≡ done ++ take n rest = ap (λ k. take k xs) size ∙ ap (take (length done + n)) is ∙ take-append-add done rest n in
    ap (escaped p) front ∙ flat_map-append (piece p) done (take n rest) ∙ ap (λ l. l ++ escaped p (take n rest)) e ∙ ap (λ l. done ++ l) h ∙ sym front

-- a run, a byte that is replaced, and what comes behind
pub in_parts : (p : ℕ → Bool) (run : List ℕ) (b : ℕ) (behind : List ℕ) → escaped p run ≡ run → p b ≡ true → escaped p (run ++ b ∷ behind) ≡ (run ++ replacement b) ++ escaped p behind
in_parts p run b behind e h =
    flat_map-append (piece p) run (b ∷ behind) ∙ ap (λ l. l ++ escaped p (b ∷ behind)) e ∙ ap (λ l. run ++ l) (rw h refl) ∙ sym (append_assoc run (replacement b) (escaped p behind))

-- where nothing comes behind the run, the run is all
pub run_is_all : (p : ℕ → Bool) (run back : List ℕ) → escaped p run ≡ run → length back < 1 → escaped p (run ++ back) ≡ run
run_is_all p run [] e h = ap (escaped p) (append-nil run) ∙ e
run_is_all p run (b ∷ back) e h = absurd (omega arith)

-- else the run and what replaces the first byte behind it are placed next
pub next_parts : (p : ℕ → Bool) (run back : List ℕ) → escaped p run ≡ run → 1 ≤ length back → p (get_or back 0 0) ≡ true → escaped p (run ++ back) ≡ (run ++ replacement (get_or back 0 0)) ++ escaped p (take (length back - 1) (drop 1 back))
next_parts p run [] e h t = absurd (omega arith)
next_parts p run (b ∷ back) e h t =
    let all : take (length (b ∷ back) - 1) back ≡ back = take_all (length (b ∷ back) - 1) back (omega arith) in
    in_parts p run b back e t ∙ ap (λ l. (run ++ replacement b) ++ escaped p l) (sym all)

-- A step on the way: `done` is placed and `rest` is left, of which the first n bytes stay and the next one, if there is one,
-- is replaced.
module _ (p : ℕ → Bool) (value d : List ℕ) (at : ℕ) (fits : at + length (escaped p value) ≤ length d) (done rest : List ℕ) (whole : escaped p value ≡ done ++ escaped p rest) (n : ℕ) (stays : escaped p (take n rest) ≡ take n rest) (next : n < length rest → p (get_or rest n 0) ≡ true) (run back : List ℕ) (front : run ≡ take n rest) (behind : back ≡ drop n rest) where
  parts : rest ≡ run ++ back
  parts = sym (ap (λ l. l ++ back) front ∙ ap (λ l. take n rest ++ l) behind ∙ take-append-drop n rest)

  same : escaped p run ≡ run
  same = ap (escaped p) front ∙ stays ∙ sym front

  replaced : 1 ≤ length back → p (get_or back 0 0) ≡ true
  replaced h = ap p (ap (λ l. get_or l 0 0) behind ∙ get_or-drop n rest 0 0 ∙ ap (λ k. get_or rest k 0) (omega arith)) ∙ next (omega (arith, h, ap length behind, length-drop n rest))

  pub run_last : length back < 1 → escaped p value ≡ done ++ run
  run_last h = whole ∙ ap (λ l. done ++ escaped p l) parts ∙ ap (λ l. done ++ l) (run_is_all p run back same h)

  pub run_next : 1 ≤ length back → escaped p value ≡ ((done ++ run) ++ replacement (get_or back 0 0)) ++ escaped p (take (length back - 1) (drop 1 back))
  run_next h =
      let r = replacement (get_or back 0 0) in
      let left = escaped p (take (length back - 1) (drop 1 back)) in
      whole ∙ ap (λ l. done ++ escaped p l) parts ∙ ap (λ l. done ++ l) (next_parts p run back same h (replaced h)) ∙ sym (append_assoc done (run ++ r) left) ∙ ap (λ l. l ++ left) (sym (append_assoc done run r))

  -- so both fit
  pub both_fit : 1 ≤ length back → at + length done + length run + length (replacement (get_or back 0 0)) ≤ length d
  both_fit h =
      let r = replacement (get_or back 0 0) in
      let left = escaped p (take (length back - 1) (drop 1 back)) in
      omega (arith, fits, ap length (run_next h), length-append ((done ++ run) ++ r) left, length-append (done ++ run) r, length-append done run)
