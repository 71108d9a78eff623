use Rattle.std.proofs.Common.{◌≡◌, ℕ, ◌+◌, ◌-◌, ◌<◌, List, length, take, drop, ◌∙◌, sym, ap, subst, arith}
use Rattle.std.proofs.lemmas.List.{take_all, length-drop}
use Rattle.xml.specs.Escaping.{escaped}
use Rattle.xml.specs.Marked.{marked}
use Rattle.xml.proofs.Pieces.{stays_on, stays_more}
use Rattle.xml.proofs.chosen.Chosen.run_len.Goals as goal

-- what is left, as the code cuts it
left : (xs : List ℕ) (i : ℕ) → take (length xs - i) (drop i xs) ≡ drop i xs
left xs i = take_all (length xs - i) (drop i xs) (omega (arith, length-drop i xs))

pub returns-then-len-value-clause-stays : goal.returns-then-len-value-clause-stays
returns-then-len-value-clause-stays c =
    let p = marked c.args.self.bits in
    let xs = c.args.value.now in
    let n = c.sure_len-len.result in
    stays_on p xs c.loop-len.len n c.loop-len.invariant.1 (subst (λ l. escaped p (take n l) ≡ take n l) (left xs c.loop-len.len) c.sure_len-len.ensures.stays)

pub loop-len-preserved : goal.loop-len-preserved
loop-len-preserved c =
    let p = marked c.args.self.bits in
    let xs = c.args.value.now in
    let i = c.loop-len.len in
    let n = c.sure_len-len.result in
    let on = stays_on p xs i n c.loop-len.invariant.1 (subst (λ l. escaped p (take n l) ≡ take n l) (left xs i) c.sure_len-len.ensures.stays) in
    let within : i + n < length xs = omega (arith, c.loop-len.invariant.0, c.sure_len-len.ensures.within, c.if-len-value.false, ap length (left xs i), length-drop i xs) in
    (omega (arith, within), stays_more p xs (i + n) within on (sym c.has.ensures.value ∙ c.if-has.false))
