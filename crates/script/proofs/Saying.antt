-- A word that was found and its argument make what a line says, or what is wrong with it.
use Rattle.std.proofs.Common.{ℕ, Bool, true, false, cond, leb, List, [], Some, None, Ok, Err, codes, Option, Result, arith, ◌∷◌, inr, MatchResult}
use Rattle.std.specs.Str.{bytes_eq}
use Rattle.style.specs.declared.style.EmptyElementHandling.{EmptyElementHandling}
use Rattle.script.specs.declared.settings.SinkChoice.{SinkChoice}
use Rattle.script.specs.declared.settings.SinkChoice.TheVariants.{Buffer, Pages}
use Rattle.script.specs.declared.fault.Fault.{Fault}
use Rattle.script.specs.declared.fault.Fault.TheVariants as fault
use Rattle.script.specs.declared.words.Word.{Word}
use Rattle.script.specs.declared.line.Line.{Line}
use Rattle.script.specs.Cuts.{behind}
use Rattle.script.specs.Numbers.{decimal_value, up_to, number_of}
use Rattle.script.specs.Settings.{then, one_of, part, parts_left, largest, forms, levels, indentation_of, indented, layout_of, sizes_of, sink_of, Wrong}
use Rattle.script.specs.Says.{Spoken, Means, Says, Faulty}

-- the faults that lie in a setting
abbrev OfSetting : Fault → Type 0
OfSetting fault.UnknownWord = ⊥
OfSetting fault.UnwantedArgument = ⊥
OfSetting fault.BadEscape = ⊥
OfSetting fault.BadNumber = Unit {0}
OfSetting fault.BadSetting = Unit {0}
OfSetting fault.TooLate = ⊥
OfSetting fault.Memory = ⊥

abbrev InSetting : {A : Type 0} → Result A Fault → Type 0
InSetting (Ok a) = Unit {0}
InSetting (Err e) = OfSetting e

-- no other fault comes
record Only {A : Type 0} (r : Result A Fault) : Type 0 where
  pub is : InSetting r

fine : {A : Type 0} {a : A} → Only (Ok a)
fine = record { is = tt }

only_cond : {A : Type 0} (b : Bool) (x y : Result A Fault) → Only x → Only y → Only (cond b x y)
only_cond true x y p q = p
only_cond false x y p q = q

only_then : {A B : Type 0} (r : Result A Fault) (f : A → Result B Fault) → Only r → ((a : A) → Only (f a)) → Only (then r f)
only_then (Ok a) f p q = q a
only_then (Err e) f p q = record { is = p.is }

only_up_to : (most : ℕ) (o : Option ℕ) → Only (up_to most o)
only_up_to most None = record { is = tt }
only_up_to most (Some n) = only_cond (leb n most) (Ok n) (Err fault.BadNumber) fine (record { is = tt })

only_number : (most : ℕ) (bs : List ℕ) → Only (number_of most bs)
only_number most bs = only_up_to most (decimal_value bs)

only_one_of : {A : Type 0} (bs : List ℕ) (table : List (List ℕ × A)) → Only (one_of bs table)
only_one_of bs [] = record { is = tt }
only_one_of bs (s ∷ more) = only_cond (bytes_eq bs s.0) (Ok s.1) (one_of bs more) fine (only_one_of bs more)

only_indentation : (bs : List ℕ) → Only (indentation_of bs)
only_indentation bs = only_then _ _ (only_number 255 (part bs)) (λ b. only_then _ _ (only_number 65535 (parts_left bs)) (λ n. fine))

only_indented : (form : EmptyElementHandling) (o : Option (List ℕ)) → Only (indented form o)
only_indented form None = fine
only_indented form (Some bs) = only_then _ _ (only_indentation bs) (λ i. fine)

only_layout : (bs : List ℕ) → Only (layout_of bs)
only_layout bs = only_then _ _ (only_one_of (part bs) forms) (λ form. only_indented form (behind 32 bs))

only_sizes : (bs : List ℕ) → Only (sizes_of bs)
only_sizes bs =
    only_then _ _ (only_number largest (part bs)) (λ stage. only_then _ _ (only_number largest (part (parts_left bs))) (λ names. only_then _ _ (only_number largest (parts_left (parts_left bs))) (λ frames. fine)))

only_buffer : (b c : Bool) (r : Result SinkChoice Fault) → Only r → Only (cond b (Ok Pages) (cond c r (Err fault.BadSetting)))
only_buffer b c r p = only_cond b _ _ fine (only_cond c _ _ p (record { is = tt }))

only_sink : (bs : List ℕ) → Only (sink_of bs)
only_sink bs =
    only_buffer (bytes_eq bs (codes "pages")) (bytes_eq (part bs) (codes "buffer")) (then (number_of largest (parts_left bs)) (λ n. Ok (Buffer n))) (only_then _ _ (only_number largest (parts_left bs)) (λ n. fine))

wrong_setting : (w : Word) (bs : List ℕ) (e : Fault) → Wrong w bs e → OfSetting e
wrong_setting w bs e h = grind (arith, only_layout bs, only_sizes bs, only_sink bs, only_one_of bs levels)

-- a wrong setting is the line's fault
faulty : (line : List ℕ) (w : Word) (bs : List ℕ) (e : Fault) → Spoken line w bs → Wrong w bs e → OfSetting e → Faulty e line
faulty line w bs e s h o = grind (arith, s, h)

-- what a word says with its argument, the line says
pub said : (line : List ℕ) (w : Word) (bs : List ℕ) (r : Result Line Fault) → Spoken line w bs → MatchResult r (λ l. Means l w bs) (λ e. Wrong w bs e) → MatchResult r (λ l. Says l line) (λ e. Faulty e line)
said line w bs (Ok l) s h = inr (w, bs, s, h)
said line w bs (Err e) s h = faulty line w bs e s h (wrong_setting w bs e h)
