use Rattle.std.proofs.Common.{◌≡◌, ℕ, ◌+◌, ◌≤◌, List, length, Some, None, Ok, Err, Result, MatchResult, subst, rules, arith}
use Rattle.std.specs.Result.{IsErrAnd, IfErr}
use Rattle.std.proofs.lemmas.Result.{err_from_is_err_and, IfErr-at_err}
use Rattle.refusal.specs.declared.Refusal.{Refusal}
use Rattle.refusal.specs.declared.Refusal.TheVariants.{Name}
use Rattle.refusal.specs.Refusals.{offset}
use Rattle.xml.specs.Names.{name_fault}
use Rattle.engine.specs.Memory.{mem}
use Rattle.engine.specs.Checks.{CheckedName}
use Rattle.fields.proofs.AttributeKeys.{at_before, fault_within, attribute_misnamed, attribute_key, attribute_full}
use Rattle.fields.proofs.keys.attribute_field.Goals as goal

pub map_err-requires : goal.map_err-requires
map_err-requires c =
    let n = c.args.name.now in
    λ e is.
    let told = subst (λ r. CheckedName r n) is c.check_name.ensures.checked in
    let low : offset e ≤ length n = fault_within n (offset e) c.utf8.name told.0 in
    λ taken given offset. omega (arith, low, offset.ensures)

-- a checked name is refused with the place of its fault in the key
told_in_key : {A : Type 0} (r s : Result A Refusal) (n : List ℕ) (R : Refusal → Refusal → Type 0) → MatchResult r (λ x. s ≡ Ok x) (λ e. IsErrAnd s (R e)) → ((e x : Refusal) → R e x → x ≡ Name (1 + offset e)) → CheckedName r n → IfErr s (λ x. (k : ℕ) × (name_fault n ≡ Some k) × (x ≡ Name (1 + k)))
told_in_key (Ok y) (Ok x) n R m k h = tt
told_in_key (Ok y) (Err x) n R m k h = absurd (cc)
told_in_key (Err e) (Ok x) n R m k h = absurd m
told_in_key (Err e) (Err x) n R m k h = (offset e, h.0, k e x m)

pub returns-in_err-map_err : goal.returns-in_err-map_err
returns-in_err-map_err c =
    let n = c.args.name.now in
    let w = mem c.args.core.now in
    let p = err_from_is_err_and c.from_residual.result c.from_residual.ensures.1 in
    let at = IfErr-at_err _ c.in_err-map_err.was (told_in_key c.check_name.result c.map_err.result n _ c.map_err.ensures.cases (λ e x h. search rules) c.check_name.ensures.checked) in
    rw (p.1, p.2, at.2) (record { does = λ room. attribute_misnamed n room at.0 w c.requires.place (at_before n c.utf8.name) at.1 })

pub returns-in_err-put_in_tag : goal.returns-in_err-put_in_tag
returns-in_err-put_in_tag c =
    let p = c.requires in
    let n = c.args.name.now in
    let w = mem c.args.core.now in
    let named : name_fault n ≡ None = search rules in
    let puts = rw c.as_bytes.ensures.value at c.in_err-put_in_tag.ensures.puts in
    let e = err_from_is_err_and c.from_residual-in_err-put_in_tag.result c.from_residual-in_err-put_in_tag.ensures.1 in
    rw (e.1, e.2, puts.0, puts.1) (record { does = λ room. attribute_full n room w p.safe p.place (at_before n c.utf8.name) named puts.2 })

pub returns : goal.returns
returns c =
    let p = c.requires in
    let n = c.args.name.now in
    let w = mem c.args.core.now in
    let named : name_fault n ≡ None = search rules in
    let puts = rw c.as_bytes.ensures.value at c.in_ok-put_in_tag.ensures.puts in
    record { does = λ room. attribute_key n room w p.safe p.place (at_before n c.utf8.name) named (mem c.put_in_tag.new.self) puts.0 puts.1 }
