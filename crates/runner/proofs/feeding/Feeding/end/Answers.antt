use Rattle.std.proofs.Common.{sym, subst, refl}
use Rattle.runner.specs.Feeding.{holds, nothing, GivesIf}
use Rattle.runner.proofs.Reaching.{gains_none}
use Rattle.runner.proofs.feeding.Feeding.end.Goals as goal

pub returns-else-batch-clause-ends : goal.returns-else-batch-clause-ends
returns-else-batch-clause-ends g c =
    (nothing, subst (λ x. GivesIf x c.args.self.now.output c.args.batch.now nothing) (sym c.if-batch.false) refl, gains_none (holds g.O.Outlet.contents g.E.Outlet.contents c.args.self.now))
