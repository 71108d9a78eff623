use Rattle.std.proofs.Common.{Ok, get_or, rules}
use Rattle.runner.proofs.Lines.{appends_then, answers_more}
use Rattle.runner.proofs.printing.print_answers.Goals as goal

pub loop-answer-preserved : goal.loop-answer-preserved
loop-answer-preserved g c =
    let rs = c.args.answers.now in
    let i = c.loop-answer.answer-index in
    let held = g.O.Outlet.contents in
    rw (answers_more rs i (get_or rs i (Ok tt)) c.loop-answer-test.true (search rules)) (appends_then (held c.args.out.now) (held c.loop-answer.out) (held c.put_line.new.self) _ _ c.loop-answer.invariant c.in_ok-put_line.ensures.takes)
