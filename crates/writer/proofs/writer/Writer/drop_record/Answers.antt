use Rattle.model.specs.Calls.{call_abandon}
use Rattle.engine.specs.Memory.{mem}
use Rattle.places.proofs.Standing.{safe}
use Rattle.writer.proofs.Lasting.{lasts}
use Rattle.writer.proofs.writer.Writer.drop_record.Goals as goal

pub abandon-requires : goal.abandon-requires
abandon-requires c = safe (mem c.args.self.now.core) c.args.self.now.sound c.args.self.now.sizes

pub invariant_of-self : goal.invariant_of-self
invariant_of-self c =
    let s = c.args.self.now in
    let kept = lasts call_abandon 0 c.abandon.result (mem s.core) (mem c.abandon.new.core) s.sound s.sizes (c.abandon.ensures.does 0) in
    record { sound = kept.0; sizes = kept.1 }
