-- What the arguments of the set-up words say; their parts stand one space apart. Assumes nothing.
use Rattle.std.specs.Prelude.{◌≡◌, ℕ, ◌-◌, ◌^◌, cond, List, [], ◌∷◌, Some, None, Ok, Err, codes, Option, Result}
use Rattle.std.specs.Option.{unwrap_or}
use Rattle.std.specs.Str.{bytes_eq}
use Rattle.style.specs.declared.style.EmptyElementHandling.{EmptyElementHandling}
use Rattle.style.specs.declared.style.EmptyElementHandling.TheVariants.{SelfClosed, SelfClosedWithSpace, Expanded}
use Rattle.style.specs.declared.indentation.Indentation.{Indentation}
use Rattle.xml.specs.declared.escape.QuoteLevel.{QuoteLevel}
use Rattle.xml.specs.declared.escape.QuoteLevel.TheVariants.{Full, Partial, Minimal}
use Rattle.script.specs.declared.fault.Fault.{Fault}
use Rattle.script.specs.declared.fault.Fault.TheVariants.{BadSetting}
use Rattle.script.specs.declared.settings.Layout.{Layout}
use Rattle.script.specs.declared.settings.Sizes.{Sizes}
use Rattle.script.specs.declared.settings.SinkChoice.{SinkChoice}
use Rattle.script.specs.declared.settings.SinkChoice.TheVariants.{Buffer, Pages}
use Rattle.script.specs.declared.words.Word.{Word}
use Rattle.script.specs.declared.words.Word.TheVariants.{New, Style, Memory, Sink, Level, Open, Field, Text, Nothing, Variant, Wrapped, Row, VariantRow, Record, VariantRecord, End, Finish, Abandon}
use Rattle.script.specs.Cuts.{before, behind}
use Rattle.script.specs.Numbers.{number_of}

-- what follows from a value, where there is one
abbrev pub then : {A B : Type 0} → Result A Fault → (A → Result B Fault) → Result B Fault
then (Ok a) f = f a
then (Err e) f = Err e

-- the part before the first space, and what stands behind it: nothing where there is no space
abbrev pub part : List ℕ → List ℕ
part bs = before 32 bs

abbrev pub parts_left : List ℕ → List ℕ
parts_left bs = unwrap_or (behind 32 bs) []

-- no size is larger than this
abbrev pub largest : ℕ
largest = 2 ^ 64 - 1

-- the first of these settings that is written like this
abbrev pub one_of : {A : Type 0} → List ℕ → List (List ℕ × A) → Result A Fault
one_of bs [] = Err BadSetting
one_of bs (s ∷ more) = cond (bytes_eq bs s.0) (Ok s.1) (one_of bs more)

abbrev pub forms : List (List ℕ × EmptyElementHandling)
forms = (codes "self-closed", SelfClosed) ∷ (codes "self-closed-with-space", SelfClosedWithSpace) ∷ (codes "expanded", Expanded) ∷ []

abbrev pub levels : List (List ℕ × QuoteLevel)
levels = (codes "full", Full) ∷ (codes "partial", Partial) ∷ (codes "minimal", Minimal) ∷ []

abbrev pub form_of : List ℕ → Result EmptyElementHandling Fault
form_of bs = one_of bs forms

abbrev pub level_of : List ℕ → Result QuoteLevel Fault
level_of bs = one_of bs levels

-- BYTE SIZE
abbrev pub indentation_of : List ℕ → Result Indentation Fault
indentation_of bs = then (number_of 255 (part bs)) (λ b. then (number_of 65535 (parts_left bs)) (λ n. Ok (record { byte = b; size = n })))

-- an indentation stands behind the form, or none does
abbrev pub indented : EmptyElementHandling → Option (List ℕ) → Result Layout Fault
indented form None = Ok (record { empty_elements = form; indentation = None })
indented form (Some bs) = then (indentation_of bs) (λ i. Ok (record { empty_elements = form; indentation = Some i }))

-- FORM or FORM BYTE SIZE
abbrev pub layout_of : List ℕ → Result Layout Fault
layout_of bs = then (form_of (part bs)) (λ form. indented form (behind 32 bs))

-- STAGE NAMES FRAMES
abbrev pub sizes_of : List ℕ → Result Sizes Fault
sizes_of bs =
    then (number_of largest (part bs)) (λ stage. then (number_of largest (part (parts_left bs))) (λ names. then (number_of largest (parts_left (parts_left bs))) (λ frames. Ok (record { stage = stage; names = names; frames = frames }))))

-- pages, or buffer N
abbrev pub sink_of : List ℕ → Result SinkChoice Fault
sink_of bs =
    cond (bytes_eq bs (codes "pages")) (Ok Pages) (cond (bytes_eq (part bs) (codes "buffer")) (then (number_of largest (parts_left bs)) (λ n. Ok (Buffer n))) (Err BadSetting))

-- what is wrong with the argument of a set-up word; no other word looks into its argument
abbrev pub Wrong : Word → List ℕ → Fault → Type 0
Wrong New bs e = ⊥
Wrong Style bs e = layout_of bs ≡ Err e
Wrong Memory bs e = sizes_of bs ≡ Err e
Wrong Sink bs e = sink_of bs ≡ Err e
Wrong Level bs e = level_of bs ≡ Err e
Wrong Open bs e = ⊥
Wrong Field bs e = ⊥
Wrong Text bs e = ⊥
Wrong Nothing bs e = ⊥
Wrong Variant bs e = ⊥
Wrong Wrapped bs e = ⊥
Wrong Row bs e = ⊥
Wrong VariantRow bs e = ⊥
Wrong Record bs e = ⊥
Wrong VariantRecord bs e = ⊥
Wrong End bs e = ⊥
Wrong Finish bs e = ⊥
Wrong Abandon bs e = ⊥
