use Rattle.std.proofs.Common.{◌≡◌, ℕ, List, [], ◌∷◌, map, Some, None, Option, Ok, Err, Result, Bor, refl, rules, tests, arith}
use Rattle.std.specs.List.{find}
use Rattle.std.specs.Str.{bytes_eq}
use Rattle.std.proofs.lemmas.Iterator.{YieldsList-from_slice}
use Rattle.std.proofs.lemmas.Iterator.Search.{find_from_yields_List}
use Rattle.script.specs.declared.fault.Fault.{Fault}
use Rattle.script.specs.declared.fault.Fault.TheVariants.{BadSetting}
use Rattle.script.specs.Settings.{one_of}
use Rattle.script.proofs.settings.one_of.Goals as goal

-- the setting of a row, if a row was found
abbrev setting : {A : Type 0} → Option (Bor (List ℕ) × A) → Result A Fault
setting None = Err BadSetting
setting (Some s) = Ok s.1

one_of_found : {A : Type 0} (text : List ℕ) (settings : List (Bor (List ℕ) × A)) → one_of text (map (λ s. (s.0.now, s.1)) settings) ≡ setting (find (λ s. bytes_eq text s.0.now) settings)
one_of_found text [] = refl
one_of_found text (s ∷ more) = grind (arith, one_of_found text more)

pub returns : goal.returns
returns g c =
    let text = c.args.text.now in
    let settings = c.args.settings.now in
    let found = find_from_yields_List (λ s. bytes_eq text s.0.now) _ _ c.find.result c.find.ensures.ran (YieldsList-from_slice settings cc) (λ s b q k. search (rules, tests)) in
    let same = one_of_found text settings in
    record { value = search (rules, found, same) }
