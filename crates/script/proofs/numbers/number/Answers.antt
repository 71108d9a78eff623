use Rattle.std.proofs.Common.{◌≡◌, ◌+◌, ◌*◌, drop, sym, ap, ◌∙◌, arith}
use Rattle.std.proofs.lemmas.Grind.{common_steps}
use Rattle.script.specs.Numbers.{more_digits, decimal_value, up_to}
use Rattle.script.proofs.Counting.{past}
use Rattle.script.proofs.numbers.number.Goals as goal

pub returns-then-value-most : goal.returns-then-value-most
returns-then-value-most c =
    let text = c.args.text.now in
    let value = c.loop-c.value * 10 + c.from-in-loop-c.result in
    let rest = drop (c.loop-c.c-index + 1) text in
    let read : decimal_value text ≡ more_digits value rest = grind (arith, common_steps) in
    record { value = sym (ap (up_to c.args.most) read ∙ past c.args.most value rest c.if-value-most.true) }
