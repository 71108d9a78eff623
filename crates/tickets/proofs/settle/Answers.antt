use Rattle.std.proofs.Common.{sym, refl, subst}
use Rattle.engine.specs.Memory.{mem}
use Rattle.tickets.specs.Settling.{Settles}
use Rattle.tickets.proofs.settle.Goals as goal

pub returns-in-Err : goal.returns-in-Err
returns-in-Err g c =
    let sink = c.args.sink.now in
    record { settles = subst (λ r. Settles r c.give_up.result (mem c.args.writer.now.core) (mem c.give_up.new.writer.core) (g.S.Sink.held sink) (g.S.Sink.room sink) (g.S.Sink.held sink) (g.S.Sink.room sink)) (sym c.in-Err.is) (c.give_up.ensures.gives_up, refl, refl) }
