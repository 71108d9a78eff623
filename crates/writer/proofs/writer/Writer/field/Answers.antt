use Rattle.model.specs.Calls.{call_field}
use Rattle.engine.specs.Memory.{mem}
use Rattle.places.proofs.Standing.{safe}
use Rattle.writer.proofs.Lasting.{lasts}
use Rattle.writer.proofs.writer.Writer.field.Goals as goal

pub begin_field-requires-clause-safe : goal.begin_field-requires-clause-safe
begin_field-requires-clause-safe c = safe (mem c.args.self.now.core) c.args.self.now.sound c.args.self.now.sizes

pub invariant_of-self : goal.invariant_of-self
invariant_of-self c =
    let s = c.args.self.now in
    let kept = lasts (call_field c.args.key.now) 0 c.begin_field.result (mem s.core) (mem c.begin_field.new.core) s.sound s.sizes (c.begin_field.ensures.does 0) in
    record { sound = kept.0; sizes = kept.1 }
