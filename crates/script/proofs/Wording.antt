-- Looking a word up in the table of all words: its spelling tells it.
use Rattle.std.proofs.Common.{◌≡◌, ℕ, Bool, true, List, [], ◌∷◌, Some, None, Option, sym, ap, ◌∙◌, arith}
use Rattle.std.specs.List.{find}
use Rattle.std.specs.Str.{bytes_eq}
use Rattle.std.proofs.lemmas.Option.{none-some}
use Rattle.std.proofs.lemmas.Slice.Eq.{bytes_eq-Decides}
use Rattle.script.specs.declared.words.Word.{Word}
use Rattle.script.specs.Words.{words, spelling, Names, ToldApart}

-- a word that is found is one that passes
found_passes : (test : Word → Bool) (ws : List Word) (w : Word) → find test ws ≡ Some w → test w ≡ true
found_passes test [] w e = absurd (none-some w e)
found_passes test (v ∷ ws) w e = grind (arith, found_passes test ws w)

-- the first word of the table that is written like this
abbrev pub among : List ℕ → Option Word
among bs = find (λ w. bytes_eq bs (spelling w)) words

told : (w : Word) → among (spelling w) ≡ Some w
told w = grind arith

pub told_apart : ToldApart
told_apart v w e = let same : Some v ≡ Some w = sym (told v) ∙ ap among e ∙ told w in cc

-- what the search of the table says
pub names : (r : Option Word) (bs : List ℕ) → r ≡ among bs → Names r bs
names None bs e = λ w is. none-some w (e ∙ ap among is ∙ told w)
names (Some w) bs e = (bytes_eq-Decides bs (spelling w)).0 (found_passes (λ v. bytes_eq bs (spelling v)) words w (sym e))
