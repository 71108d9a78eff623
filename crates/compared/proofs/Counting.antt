-- Each answer is counted once. Assumes nothing.
use Rattle.std.proofs.Common.{◌≡◌, ◌≢◌, ℕ, ◌+◌, ◌-◌, ◌^◌, ◌<◌, ◌==◌, ◌||◌, Bool, true, false, List, [], ◌∷◌, ◌++◌, length, drop, codes, if◌then◌else◌, refl, ap, ◌∙◌, inl, inr, arith}
use Rattle.std.specs.List.{starts_with}
use Rattle.std.specs.Bool.{Decides}
use Rattle.std.specs.Str.Lines.{lines}
use Rattle.std.specs.Str.{bytes_eq}
use Rattle.std.proofs.lemmas.Slice.Eq.{bytes_eq-Decides, starts_is}
use Rattle.std.proofs.lemmas.Bool.Decides.{Decides-eqb}
use Rattle.script.specs.declared.line.Numbered.{Numbered}
use Rattle.compared.specs.declared.tally.Tally.{Tally}
use Rattle.compared.specs.Tallies.{more, same_counted, difference_counted, Same, Different}
use Rattle.compared.specs.Replaying.{HoldsNone}
use Rattle.compared.specs.Comparing.{Leads, Compares, none_judged, holds_answer, answers_in, counted_in, CountsEachOnce}

more_is : (n : ℕ) → n < 2 ^ 64 - 1 → more n ≡ n + 1
more_is n low = omega arith

same_one : (n : ℕ) (record_has right : Bool) (t : Tally) → counted_in t < 2 ^ 64 - 1 → counted_in (same_counted n record_has right t) ≡ counted_in t + 1
same_one n true true t low = omega (arith, more_is t.records.all (omega arith))
same_one n true false t low = omega (arith, more_is t.records.all (omega arith))
same_one n false true t low = omega (arith, more_is t.refusals.all (omega arith))
same_one n false false t low = omega (arith, more_is t.refusals.all (omega arith))

different_one : (n : ℕ) (right : Bool) (t : Tally) → counted_in t < 2 ^ 64 - 1 → counted_in (difference_counted n right t) ≡ counted_in t + 1
different_one n true t low = omega (arith, more_is t.differences.all (omega arith))
different_one n false t low = omega (arith, more_is t.differences.all (omega arith))

-- whether the two are the same or not
either : (xs ys : List ℕ) (P : Type 0) → (xs ≡ ys → P) → (xs ≢ ys → P) → P
either xs ys P same other = by (bytes_eq xs ys) (bytes_eq-Decides xs ys)
  where
    by : (b : Bool) → Decides b (xs ≡ ys) → P
    by true d = same (d.0 refl)
    by false d = other (λ e. let wrong : false ≡ true = d.1 e in cc)

same_counts : (n : ℕ) (crates ours : List ℕ) (t u : Tally) → counted_in t < 2 ^ 64 - 1 → Same n crates ours t u → counted_in u ≡ counted_in t + 1
same_counts n crates ours t u low h =
    let bytes = starts_with ◌==◌ crates (codes "bytes ") in
    either crates ours (counted_in u ≡ counted_in t + 1) (λ e. ap counted_in (h.0 e) ∙ same_one n bytes true t low) (λ e. ap counted_in (h.1 e) ∙ same_one n bytes false t low)

different_counts : (n : ℕ) (crates ours : List ℕ) (t u : Tally) → counted_in t < 2 ^ 64 - 1 → Different n crates ours t u → counted_in u ≡ counted_in t + 1
different_counts n crates ours t u low h =
    either crates ours (counted_in u ≡ counted_in t + 1) (λ e. ap counted_in (h.1 e) ∙ different_one n false t low) (λ e. ap counted_in (h.0 e) ∙ different_one n true t low)

-- a line with neither mark holds no answer
unmarked : (text mark : List ℕ) → ((rest : List ℕ) → text ≢ mark ++ rest) → (b : Bool) → b ≡ starts_with ◌==◌ text mark → b ≡ false
unmarked text mark lacks true is = absurd (lacks (drop (length mark) text) ((starts_is Decides-eqb text mark true is).0 refl))
unmarked text mark lacks false is = refl

holds_none : (text : List ℕ) → HoldsNone text → holds_answer text ≡ false
holds_none text h =
    let one = unmarked text (codes "#= ") (λ rest. (h rest).0) (starts_with ◌==◌ text (codes "#= ")) refl in
    let other = unmarked text (codes "#! ") (λ rest. (h rest).1) (starts_with ◌==◌ text (codes "#! ")) refl in
    ap (λ b. b || starts_with ◌==◌ text (codes "#! ")) one ∙ other

answer_next : (text : List ℕ) (texts : List (List ℕ)) (b : Bool) → holds_answer text ≡ b → answers_in (text ∷ texts) ≡ (if b then answers_in texts + 1 else answers_in texts)
answer_next text texts b is = ap (λ x. if x then answers_in texts + 1 else answers_in texts) is

counts : (k : ℕ) (texts : List (List ℕ)) (said : List Numbered) (t t' : Tally) → counted_in t + length texts < 2 ^ 64 - 1 → Leads k texts said t t' → counted_in t' ≡ counted_in t + answers_in texts
counts k [] said t t' low h = omega (arith, ap counted_in h)
counts k (text ∷ texts) said t t' low (inl (u, (sheet, after, (crates, ours, tells, inl (is, same))), more)) =
    let one = same_counts k crates ours t u (omega arith) same in
    let rest = counts (k + 1) texts said u t' (omega arith) more in
    let here = answer_next text texts true (ap holds_answer is) in
    omega arith
counts k (text ∷ texts) said t t' low (inl (u, (sheet, after, (crates, ours, tells, inr (is, different))), more)) =
    let one = different_counts k crates ours t u (omega arith) different in
    let rest = counts (k + 1) texts said u t' (omega arith) more in
    let here = answer_next text texts true (ap holds_answer is) in
    omega arith
counts k (text ∷ texts) said t t' low (inr (line, none, says, more)) =
    let rest = counts (k + 1) texts (said ++ record { number = k; line = line } ∷ []) t t' (omega arith) more in
    let here = answer_next text texts false (holds_none text none) in
    omega arith

pub counts_each_once : (sheets : List ℕ) (t : Tally) → Compares sheets t → CountsEachOnce sheets t
counts_each_once sheets t h low =
    let all = counts 0 (lines sheets) [] none_judged t (omega arith) h in
    omega arith
