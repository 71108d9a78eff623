use Rattle.std.proofs.Common.{◌+◌, ◌∙◌, ◌++◌, sym, ap, arith, get_or, length, length-append}
use Rattle.memory.specs.Laid.{laid}
use Rattle.xml.specs.Escaping.{replacement}
use Rattle.xml.specs.Marked.{marked}
use Rattle.xml.proofs.Pieces.{placed_more, run_last, run_next, both_fit}
use Rattle.xml.proofs.chosen.Chosen.lay.Goals as goal

pub returns-in_default-clause-bytes : goal.returns-in_default-clause-bytes
returns-in_default-clause-bytes c =
    let l = c.loop-behind in
    let run = c.split_at.result.0.now in
    let done = l.invariant.0 in
    let last = run_last (marked c.args.self.bits) c.args.value.now c.args.out.now c.args.at c.requires done l.rest.now l.invariant.1 c.run_len.result c.run_len.ensures.stays c.run_len.ensures.next run c.split_at.result.1.now c.split_at.ensures.front c.split_at.ensures.back c.in_default.len_below in
    let placed = placed_more c.args.out.now c.args.at done run (omega (arith, c.requires, ap length last, length-append done run)) l.end l.out l.invariant.2 c.lay_run-end.result c.lay_run-end.new.out c.lay_run-end.ensures.end c.lay_run-end.ensures.bytes in
    placed.1 ∙ ap (laid c.args.out.now c.args.at) (sym last)

pub lay-end-requires : goal.lay-end-requires
lay-end-requires c =
    let l = c.loop-behind in
    let fit = both_fit (marked c.args.self.bits) c.args.value.now c.args.out.now c.args.at c.requires l.invariant.0 l.rest.now l.invariant.1 c.run_len.result c.run_len.ensures.stays c.run_len.ensures.next c.split_at.result.0.now c.split_at.result.1.now c.split_at.ensures.front c.split_at.ensures.back c.in-len1-up.len_at_least in
    omega (arith, fit, l.invariant.2.0, l.auto.out, c.lay_run-end.ensures.end, c.lay_run-end.ensures.len, ap length c.replacement_of.ensures)

pub loop-behind-preserved : goal.loop-behind-preserved
loop-behind-preserved c =
    let l = c.loop-behind in
    let p = marked c.args.self.bits in
    let d = c.args.out.now in
    let at = c.args.at in
    let done = l.invariant.0 in
    let run = c.split_at.result.0.now in
    let back = c.split_at.result.1.now in
    let r = replacement (get_or back 0 0) in
    let more = run_next p c.args.value.now d at c.requires done l.rest.now l.invariant.1 c.run_len.result c.run_len.ensures.stays c.run_len.ensures.next run back c.split_at.ensures.front c.split_at.ensures.back c.in-len1-up.len_at_least in
    let fit = both_fit p c.args.value.now d at c.requires done l.rest.now l.invariant.1 c.run_len.result c.run_len.ensures.stays c.run_len.ensures.next run back c.split_at.ensures.front c.split_at.ensures.back c.in-len1-up.len_at_least in
    let first = c.lay_run-end in
    let second = c.lay-end in
    let before = placed_more d at done run (omega (arith, fit)) l.end l.out l.invariant.2 first.result first.new.out first.ensures.end first.ensures.bytes in
    let after = placed_more d at (done ++ run) r (omega (arith, fit, length-append done run)) first.result first.new.out before second.result second.new.out (second.ensures.end ∙ ap (λ s. first.result + length s) c.replacement_of.ensures) (second.ensures.bytes ∙ ap (laid first.new.out first.result) c.replacement_of.ensures) in
    ((done ++ run) ++ r, more, after)
