-- The table of refusals: number, word and offset of each. Every promise about a refusal is made through these. Assumes nothing.
use Rattle.std.specs.Prelude.{◌≡◌, ℕ, List, ◌++◌, codes, decimal}
use Rattle.refusal.specs.declared.Refusal.{Refusal}
use Rattle.refusal.specs.declared.Refusal.TheVariants.{Order, Bytes, Shape, RunOn, Name, Stack, Depth, Stage, Sink, Style}

abbrev pub number : Refusal → ℕ
number Order = 1
number (Bytes whole) = 2
number Shape = 3
number RunOn = 4
number (Name at) = 5
number Stack = 6
number Depth = 7
number Stage = 8
number Sink = 9
number Style = 10

-- 0 where the ground does not lie in the bytes given
abbrev pub offset : Refusal → ℕ
offset Order = 0
offset (Bytes whole) = whole
offset Shape = 0
offset RunOn = 0
offset (Name at) = at
offset Stack = 0
offset Depth = 0
offset Stage = 0
offset Sink = 0
offset Style = 0

abbrev pub word : Refusal → List ℕ
word Order = codes "Order"
word (Bytes whole) = codes "Bytes"
word Shape = codes "Shape"
word RunOn = codes "Run-on"
word (Name at) = codes "Name"
word Stack = codes "Stack"
word Depth = codes "Depth"
word Stage = codes "Stage"
word Sink = codes "Sink"
word Style = codes "Style"

-- the line that is printed, as in `refusal 5 Name at 12`
abbrev pub shows : Refusal → List ℕ
shows e = codes "refusal " ++ (decimal (number e) ++ (codes " " ++ (word e ++ (codes " at " ++ decimal (offset e)))))

-- e is the refusal with number n and offset o
abbrev pub Refuses : ℕ → ℕ → Refusal → Type 0
Refuses n o e = (number e ≡ n) × (offset e ≡ o)

-- a refusal is told by its number and its offset: no two share both
abbrev pub ToldApart : Type 0
ToldApart = (d e : Refusal) → number d ≡ number e → offset d ≡ offset e → d ≡ e
