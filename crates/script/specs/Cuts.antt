-- What stands before and after the first byte of a kind: how a script falls into lines, and a line into a word and its argument. Assumes nothing.
use Rattle.std.specs.Prelude.{◌≡◌, ℕ, Bool, true, cond, List, [], ◌∷◌, ◌++◌, Some, None, Option, ◌==◌, ◌≢◌}
use Rattle.std.specs.Option.{unwrap_or}

-- the bytes before the first b, or all where there is none
abbrev pub before : ℕ → List ℕ → List ℕ
before b [] = []
before b (x ∷ xs) = cond (x == b) [] (x ∷ before b xs)

-- the bytes after the first b, where there is one
abbrev pub behind : ℕ → List ℕ → Option (List ℕ)
behind b [] = None
behind b (x ∷ xs) = cond (x == b) (Some xs) (behind b xs)

-- the first line of a script: up to its first line feed
abbrev pub first_line : List ℕ → List ℕ
first_line bs = before 10 bs

-- the lines after the first
abbrev pub later_lines : List ℕ → List ℕ
later_lines bs = unwrap_or (behind 10 bs) []

-- the word of a line: up to its first space
abbrev pub word_text : List ℕ → List ℕ
word_text line = before 32 line

-- what stands after that space, where there is one
abbrev pub after_word : List ℕ → Option (List ℕ)
after_word line = behind 32 line

-- an empty line and one that begins with # say nothing
abbrev pub blank : List ℕ → Bool
blank [] = true
blank (b ∷ bs) = b == 35

-- b stands nowhere among these bytes
abbrev pub Lacks : ℕ → List ℕ → Type 0
Lacks b [] = Unit {0}
Lacks b (x ∷ xs) = (x ≢ b) × Lacks b xs

-- the text is this front, which has no b, and behind it b and the rest, if there is any
abbrev pub Parts : ℕ → List ℕ → List ℕ → Option (List ℕ) → Type 0
Parts b text front None = (text ≡ front) × Lacks b front
Parts b text front (Some rest) = (text ≡ front ++ b ∷ rest) × Lacks b front

-- a text is cut in these two parts and in no others
abbrev pub CutAtTheFirst : Type 0
CutAtTheFirst =
    (b : ℕ) (text : List ℕ) → Parts b text (before b text) (behind b text) × ((front : List ℕ) (rest : Option (List ℕ)) → Parts b text front rest → (before b text ≡ front) × (behind b text ≡ rest))
