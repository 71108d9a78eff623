use Rattle.model.specs.Calls.{call_open}
use Rattle.engine.specs.Memory.{mem}
use Rattle.places.proofs.Standing.{safe}
use Rattle.writer.proofs.Lasting.{lasts}
use Rattle.writer.proofs.writer.Writer.open.Goals as goal

pub begin-requires : goal.begin-requires
begin-requires c = safe (mem c.args.self.now.core) c.args.self.now.sound c.args.self.now.sizes

pub invariant_of-self : goal.invariant_of-self
invariant_of-self c =
    let s = c.args.self.now in
    let kept = lasts (call_open c.args.name.now) 0 c.begin.result (mem s.core) (mem c.begin.new.core) s.sound s.sizes (c.begin.ensures.does 0) in
    record { sound = kept.0; sizes = kept.1 }
