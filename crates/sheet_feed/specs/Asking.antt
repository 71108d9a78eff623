-- What the arguments ask for. Assumes nothing.
use Rattle.std.specs.Prelude.{◌≡◌, ◌≢◌, ℕ, List, [], ◌∷◌, Some, None, Option, codes}
use Rattle.runner.specs.declared.feeding.Output.TheVariants.{Plain, Trace}
use Rattle.sheet_feed.specs.declared.arguments.Task.{Task}
use Rattle.sheet_feed.specs.declared.arguments.Task.TheVariants.{Usage, Input, File}

-- the task that these words name, or none
abbrev pub Asks : Option Task → List (List ℕ) → Type 0
Asks (Some (Input Plain)) ws = ws ≡ []
Asks (Some Usage) ws = ws ≡ codes "help" ∷ []
Asks (Some (Input Trace)) ws = ws ≡ codes "trace" ∷ []
Asks (Some (File Plain name)) ws = (ws ≡ name.now ∷ []) × (name.now ≢ codes "help") × (name.now ≢ codes "trace")
Asks (Some (File Trace name)) ws = ws ≡ codes "trace" ∷ name.now ∷ []
-- two words or more, and not `trace` with one word behind it
Asks None ws = (ws ≢ []) × ((w : List ℕ) → ws ≢ w ∷ []) × ((name : List ℕ) → ws ≢ codes "trace" ∷ name ∷ [])
