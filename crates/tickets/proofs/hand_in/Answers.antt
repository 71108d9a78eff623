use Rattle.std.proofs.Common.{sym, refl, subst}
use Rattle.engine.specs.Memory.{mem}
use Rattle.tickets.specs.Settling.{HandsIn}
use Rattle.tickets.proofs.hand_in.Goals as goal

pub returns-in-Err : goal.returns-in-Err
returns-in-Err g c =
    let w = mem c.args.writer.now.core in
    let sink = c.args.sink.now in
    let gives = c.give_up.ensures.gives_up in
    record { hands_in = subst (λ r. HandsIn r w (mem c.give_up.new.writer.core) (g.S.Sink.held sink) (g.S.Sink.room sink) (g.S.Sink.held c.finish.new.sink) (g.S.Sink.room c.finish.new.sink)) (sym gives.0) (mem c.finish.new.self.core, c.in-Err.ensures.serves, (refl, gives.1)) }
