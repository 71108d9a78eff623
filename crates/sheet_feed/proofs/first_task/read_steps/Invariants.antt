use Rattle.std.proofs.Common.{◌+◌, ◌∷◌, drop}
use Rattle.feed.specs.declared.batch.Batch.{Batch}
use Rattle.feed.specs.Sections.{IsBatchOf, at_start}
use Rattle.sheet_feed.specs.FirstTask.{Takes}
use Rattle.sheet_feed.proofs.Steps.{texts}
use Rattle.sheet_feed.proofs.first_task.read_steps.Given as goal

-- whatever batch the calls that are left lead to, all lines lead to
abbrev pub invariant-loop-before : goal.invariant-loop-before
invariant-loop-before l =
    (first : Batch) × IsBatchOf at_start first × ((c : Batch) → Takes (l.before + 1) (drop l.before (texts l.calls)) l.batch c → Takes 0 (l.style ∷ texts l.calls) first c)
