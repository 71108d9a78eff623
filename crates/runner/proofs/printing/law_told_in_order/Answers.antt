use Rattle.runner.proofs.Lines.{told_in_order, answered_in_order}
use Rattle.runner.proofs.printing.law_told_in_order.Goals as goal

pub returns : goal.returns
returns c = record { refusals = told_in_order; answers = answered_in_order }
