use Rattle.std.proofs.Common.{arith}
use Rattle.xml.specs.Marked.{marked}
use Rattle.xml.proofs.Pieces.{few_stay, four_more, front_stays}
use Rattle.xml.proofs.chosen.Chosen.sure_len.Goals as goal

pub returns-then-n-lt4-clause-stays : goal.returns-then-n-lt4-clause-stays
returns-then-n-lt4-clause-stays c =
    let p = marked c.args.self.bits in
    let l = c.loop-rest in
    let first = c.first_of-n in
    front_stays p c.args.value.now l.invariant.0 l.rest.now l.invariant.1 l.invariant.2 first.result
    (few_stay p l.rest.now first.result c.in-len4-up.len_at_least first.ensures.within first.ensures.a first.ensures.b first.ensures.c first.ensures.d)

pub loop-rest-preserved : goal.loop-rest-preserved
loop-rest-preserved c =
    let p = marked c.args.self.bits in
    let l = c.loop-rest in
    let first = c.first_of-n.ensures in
    let none = c.if-n-lt4.false in
    four_more p c.args.value.now l.invariant.0 l.rest.now l.invariant.1 l.invariant.2
    (few_stay p l.rest.now 4 c.in-len4-up.len_at_least (omega arith) (λ k. first.a (omega (arith, none))) (λ k. first.b (omega (arith, none))) (λ k. first.c (omega (arith, none))) (λ k. first.d (omega (arith, none))))

pub returns-then-may_have-clause-stays : goal.returns-then-may_have-clause-stays
returns-then-may_have-clause-stays c =
    let l = c.loop-rest in
    front_stays (marked c.args.self.bits) c.args.value.now l.invariant.0 l.rest.now l.invariant.1 l.invariant.2 c.loop-i.i c.loop-i.invariant
