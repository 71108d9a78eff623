-- Adding up digits: the number only grows.
use Rattle.std.proofs.Common.{◌≡◌, ℕ, ◌+◌, ◌-◌, ◌*◌, ◌<◌, true, false, cond, leb, List, [], ◌∷◌, None, Ok, Err, refl, ap, arith, rules}
use Rattle.script.specs.declared.fault.Fault.TheVariants.{BadNumber}
use Rattle.script.specs.Numbers.{is_digit, more_digits, up_to}

-- past the limit, no further digits help
pub past : (most n : ℕ) (cs : List ℕ) → most < n → up_to most (more_digits n cs) ≡ Err BadNumber
past most n [] h = let e : leb n most ≡ false = search rules in ap (λ t. cond t (Ok n) (Err BadNumber)) e
past most n (c ∷ cs) h =
    let m = n * 10 + (c - 48) in
    elim (is_digit c) as (λ t. up_to most (cond t (more_digits m cs) None) ≡ Err BadNumber) [ true ↦ past most m cs (omega arith) | false ↦ refl ]
