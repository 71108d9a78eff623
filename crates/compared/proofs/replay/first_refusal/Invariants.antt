use Rattle.std.proofs.Common.{◌≡◌, drop}
use Rattle.compared.specs.Replaying.{first_refused}
use Rattle.compared.proofs.replay.first_refusal.Given as goal

-- none of the answers so far is a refusal
abbrev pub invariant-loop-at : goal.invariant-loop-at
invariant-loop-at l = first_refused l.answers ≡ first_refused (drop l.at l.answers)
