use Rattle.model.specs.Calls.{call_end}
use Rattle.engine.specs.Memory.{mem}
use Rattle.places.proofs.Standing.{safe}
use Rattle.writer.proofs.Lasting.{lasts}
use Rattle.writer.proofs.writer.Writer.end.Goals as goal

pub end_at-requires-clause-safe : goal.end_at-requires-clause-safe
end_at-requires-clause-safe c = safe (mem c.args.self.now.core) c.args.self.now.sound c.args.self.now.sizes

pub invariant_of-self : goal.invariant_of-self
invariant_of-self c =
    let s = c.args.self.now in
    let kept = lasts call_end 0 c.end_at.result (mem s.core) (mem c.end_at.new.core) s.sound s.sizes (c.end_at.ensures.does 0) in
    record { sound = kept.0; sizes = kept.1 }
