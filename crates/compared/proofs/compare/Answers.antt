use Rattle.std.proofs.Common.{rules, length, sym, subst, arith}
use Rattle.std.proofs.lemmas.List.{length_push}
use Rattle.std.proofs.lemmas.List.FromFn.{length-enumerate_from}
use Rattle.std.proofs.lemmas.Iterator.Consumers.{YieldsList-from_enumerate, YieldsList-at, YieldsList-turn, YieldsList-end}
use Rattle.std.proofs.lemmas.Iterator.Splits.{YieldsList-from_lines}
use Rattle.std.specs.Str.Lines.{lines}
use Rattle.compared.specs.Comparing.{TakesLine, Compares}
use Rattle.compared.proofs.Counting.{counts_each_once}
use Rattle.compared.proofs.Leading.{Far, numbered, far_start, far_more, far_done}
use Rattle.compared.proofs.compare.Goals as goal

pub loop-number-init : goal.loop-number-init
loop-number-init c = far_start (lines c.args.sheets.now) c.at_start-batch.result c.default-tally.result c.at_start-batch.ensures.section (search rules)

pub loop-number-preserved : goal.loop-number-preserved
loop-number-preserved c =
    let l = c.loop-number in
    let texts = lines c.args.sheets.now in
    let i = length l.yielded in
    let n = c.in-Some.number in
    let text = c.in-Some.text.now in
    let t = c.take_line.new in
    let road = YieldsList-from_enumerate (YieldsList-at c.enumerate-number-items.ensures.source (YieldsList-from_lines c.args.sheets.now c.lines.ensures.rest)) c.enumerate-number-items.ensures.count in
    let here = numbered texts i n text (YieldsList-turn (YieldsList-at c.into_iter-number-iterator.ensures.into_iter_gives road) l.yielded _ l.yielded_by _ _ (n, c.in-Some.text) c.in-Some.is c.next.ensures.steps) in
    let takes : TakesLine i text l.batch t.batch l.tally t.tally = subst (λ k. TakesLine k text l.batch t.batch l.tally t.tally) here.1 c.in_ok-take_line.ensures.takes in
    subst (λ k. Far texts k t.batch t.tally) (sym (length_push l.yielded (n, c.in-Some.text))) (far_more texts i text l.batch t.batch l.tally t.tally here.0 here.2 l.invariant takes)

pub returns : goal.returns
returns c =
    let l = c.loop-number in
    let texts = lines c.args.sheets.now in
    let road = YieldsList-from_enumerate (YieldsList-at c.enumerate-number-items.ensures.source (YieldsList-from_lines c.args.sheets.now c.lines.ensures.rest)) c.enumerate-number-items.ensures.count in
    let end = YieldsList-end (YieldsList-at c.into_iter-number-iterator.ensures.into_iter_gives road) l.yielded _ l.yielded_by _ _ c.in-None.is c.next.ensures.steps in
    let compares : Compares c.args.sheets.now l.tally = far_done texts (length l.yielded) l.batch l.tally (omega (arith, end.1, length-enumerate_from 0 texts)) l.invariant in
    record { compares = compares; once = counts_each_once c.args.sheets.now l.tally compares }
