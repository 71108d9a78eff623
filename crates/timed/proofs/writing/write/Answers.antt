use Rattle.std.proofs.Common.{map, sym, ◌∙◌}
use Rattle.engine.specs.Memory.{mem}
use Rattle.writer.specs.Served.{refusal_of}
use Rattle.timed.specs.Steps.{call_of_part}
use Rattle.timed.proofs.Turns.{as_accepted}
use Rattle.timed.proofs.Records.{unfilled, answered_by}
use Rattle.timed.proofs.writing.write.Goals as goal

pub returns-then-is_err : goal.returns-then-is_err
returns-then-is_err g c =
    let held = g.S.Sink.held c.args.sink.now in
    let room = g.S.Sink.room c.args.sink.now in
    let filled = rw c.deref.ensures.value at c.fill.ensures.filled in
    record { whole = λ m lay. unfilled c.args.sheet.now.name.now (map call_of_part c.args.sheet.now.parts.items) (mem c.args.writer.now.core) m held room lay (mem c.open.new.self.core) (mem c.fill.new.writer.core) c.in-Ok.ensures.does c.fill.result (sym c.is_err.ensures.value ∙ c.if-is_err.true) filled }

pub returns : goal.returns
returns g c =
    let held = g.S.Sink.held c.args.sink.now in
    let room = g.S.Sink.room c.args.sink.now in
    record { whole = λ m lay. answered_by c.args.sheet.now.name.now (map call_of_part c.args.sheet.now.parts.items) (mem c.args.writer.now.core) m held room lay (mem c.open.new.self.core) (mem c.fill.new.writer.core) c.in-Ok.ensures.does (mem c.finish.new.self.core) (g.S.Sink.held c.finish.new.sink) (g.S.Sink.room c.finish.new.sink) (as_accepted (map call_of_part c.args.sheet.now.parts.items) c.fill.result (mem c.open.new.self.core) (mem c.fill.new.writer.core) (sym c.is_err.ensures.value ∙ c.if-is_err.false) (rw c.deref.ensures.value at c.fill.ensures.filled)) (refusal_of c.finish.result) c.finish.ensures.serves }
