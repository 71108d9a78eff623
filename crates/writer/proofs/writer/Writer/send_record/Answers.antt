use Rattle.model.specs.Calls.{call_finish}
use Rattle.engine.specs.Memory.{mem}
use Rattle.places.proofs.Standing.{safe}
use Rattle.writer.proofs.Lasting.{lasts}
use Rattle.writer.proofs.writer.Writer.send_record.Goals as goal

pub send-requires : goal.send-requires
send-requires g c = safe (mem c.args.self.now.core) c.args.self.now.sound c.args.self.now.sizes

pub invariant_of-self : goal.invariant_of-self
invariant_of-self g c =
    let s = c.args.self.now in
    let kept = lasts call_finish (g.S.Sink.room c.args.sink.now) c.send.result (mem s.core) (mem c.send.new.core) s.sound s.sizes (λ m lay. (c.send.ensures.serves m lay).told) in
    record { sound = kept.0; sizes = kept.1 }
