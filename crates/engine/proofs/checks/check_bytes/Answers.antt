use Rattle.std.proofs.Common.{◌≡◌}
use Rattle.engine.proofs.Checking.{checked_bytes}
use Rattle.engine.proofs.checks.check_bytes.Goals as goal

pub returns-clause-checked : goal.returns-clause-checked
returns-clause-checked c = checked_bytes (λ s. s.now ≡ c.args.bytes.now) c.well_formed-2.result c.args.bytes.now c.well_formed-2.ensures.cases
