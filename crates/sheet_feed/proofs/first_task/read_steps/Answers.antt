use Rattle.std.proofs.Common.{ℕ, ◌+◌, List, [], Bor}
use Rattle.sheet_feed.proofs.Steps.{takes_more, takes_none}
use Rattle.sheet_feed.proofs.first_task.read_steps.Goals as goal

pub loop-before-init : goal.loop-before-init
loop-before-init c = (c.at_start-batch.result, c.at_start-batch.ensures.section, λ d more. (c.take_text.new.batch, c.in_ok-take_text.ensures.takes, more))

pub loop-before-preserved : goal.loop-before-preserved
loop-before-preserved c =
    let l = c.loop-before in
    let none : Bor (List ℕ) = record { ref_ptr = (0, 0); now = [] } in
    (l.invariant.0, l.invariant.1, λ d more. l.invariant.2 d (takes_more c.args.calls.now l.before (l.before + 1) none l.batch c.take_text-in-loop-before.new.batch d c.loop-before-test.true c.in_ok-take_text-2.ensures.takes more))

pub returns : goal.returns
returns c =
    let l = c.loop-before in
    record { reads = (l.invariant.0, l.invariant.1, l.invariant.2 l.batch (takes_none c.args.calls.now l.before (l.before + 1) l.batch c.loop-before-test.false)) }
