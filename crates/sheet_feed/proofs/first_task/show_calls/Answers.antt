use Rattle.std.proofs.Common.{◌∷◌}
use Rattle.sheet_feed.specs.FirstTask.{IsBatchOfLines}
use Rattle.sheet_feed.proofs.Steps.{texts, from_map}
use Rattle.sheet_feed.proofs.first_task.show_calls.Goals as goal

pub returns-clause-shows : goal.returns-clause-shows
returns-clause-shows g c =
    let b = c.in_ok-batch.batch in
    let lines = c.args.style.now ∷ texts c.args.calls.now in
    (b, c.in_ok-outcome.outcome, from_map (IsBatchOfLines lines) c.read_steps.result b _ c.map_err.result c.in_ok-batch.was c.map_err.ensures.cases c.read_steps.ensures.reads, c.in_ok-outcome.ensures.becomes, c.in_ok-print_page.ensures.told)
