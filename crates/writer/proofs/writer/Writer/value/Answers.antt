use Rattle.model.specs.Calls.{call_value}
use Rattle.engine.specs.Memory.{mem}
use Rattle.places.proofs.Standing.{safe}
use Rattle.writer.proofs.Lasting.{lasts}
use Rattle.writer.proofs.Meaning.{value_meant}
use Rattle.writer.proofs.writer.Writer.value.Goals as goal

pub take_value-requires-clause-safe : goal.take_value-requires-clause-safe
take_value-requires-clause-safe g c = safe (mem c.args.self.now.core) c.args.self.now.sound c.args.self.now.sizes

pub invariant_of-self : goal.invariant_of-self
invariant_of-self g c =
    let s = c.args.self.now in
    let meant = value_meant g.R.EscapeRule.chooses g.met.R.EscapeRule.within g.met.R.EscapeRule.enough c.args.value.now in
    let kept = lasts (call_value meant.0) 0 c.take_value.result (mem s.core) (mem c.take_value.new.core) s.sound s.sizes (c.take_value.ensures.does 0 meant.0 meant.1) in
    record { sound = kept.0; sizes = kept.1 }
