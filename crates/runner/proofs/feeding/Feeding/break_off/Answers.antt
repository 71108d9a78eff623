use Rattle.std.proofs.Common.{[], sym, subst, refl, inl}
use Rattle.runner.specs.Printing.{refusals_told}
use Rattle.runner.specs.Feeding.{Written, holds, nothing, StoppedGives}
use Rattle.runner.proofs.Lines.{appends_none}
use Rattle.runner.proofs.Reaching.{gains_none}
use Rattle.runner.proofs.feeding.Feeding.break_off.Goals as goal

pub returns-in_ok-print_refusals-in-Plain-clause-breaks : goal.returns-in_ok-print_refusals-in-Plain-clause-breaks
returns-in_ok-print_refusals-in-Plain-clause-breaks g c =
    let b = c.args.batch.now in
    let r = c.in_ok-outcome-in-Plain.outcome in
    let w : Written = record { out = []; err = refusals_told b r } in
    inl (refl, w, subst (λ o. StoppedGives o b w) (sym c.in-Plain.is) (r, c.in_ok-outcome-in-Plain.ensures.becomes, refl), (appends_none (g.O.Outlet.contents c.args.self.now.out), c.in_ok-print_refusals-in-Plain.ensures.told))

pub returns-in-Trace-clause-breaks : goal.returns-in-Trace-clause-breaks
returns-in-Trace-clause-breaks g c =
    inl (refl, nothing, subst (λ o. StoppedGives o c.args.batch.now nothing) (sym c.in-Trace.is) refl, gains_none (holds g.O.Outlet.contents g.E.Outlet.contents c.args.self.now))
