use Rattle.std.proofs.Common.{◌≡◌, ◌-◌, true, length, take, drop, rules}
use Rattle.std.proofs.lemmas.Bool.{both_ways}
use Rattle.model.specs.Strings.{utf8}
use Rattle.fields.proofs.AttributeKeys.{behind_key}
use Rattle.fields.proofs.keys.field.Goals as goal

pub returns-in_err-check_bytes-in-64 : goal.returns-in_err-check_bytes-in-64
returns-in_err-check_bytes-in-64 c =
    let k = c.args.key.now in
    let told : utf8 (take (length k - 1) (drop 1 k)) ≡ true = behind_key k c.in_ok-text.ensures.checked (search rules) (search rules) in
    absurd (both_ways (utf8 (take (length k - 1) (drop 1 k))) c.in_err-check_bytes-in-64.ensures.checked.0 told)
