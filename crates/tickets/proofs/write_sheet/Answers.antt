use Rattle.std.proofs.Common.{rules, ◌≡◌, Err, Result, sym, subst}
use Rattle.refusal.specs.declared.Refusal.{Refusal}
use Rattle.engine.specs.Memory.{mem}
use Rattle.engine.specs.Lays.{setting}
use Rattle.tickets.specs.Writing.{Written}
use Rattle.tickets.proofs.Writing.{not_opened, written}
use Rattle.tickets.proofs.write_sheet.Goals as goal

pub returns-in_err-ticket : goal.returns-in_err-ticket
returns-in_err-ticket g c =
    let writer = c.args.writer.now in
    let sink = c.args.sink.now in
    let e = c.in_err-ticket.field-0.0 in
    let is : ◌≡◌ {A = Result (Unit {0}) Refusal} c.from_residual.result (Err e) = search rules in
    record { written = λ n. subst (λ r. Written c.args.trail.now r (setting (mem writer.core)) (g.S.Sink.room sink) (g.S.Sink.held sink)) (sym is) (not_opened c.args.trail.now (mem writer.core) (mem c.open.new.self.core) (g.S.Sink.held sink) (g.S.Sink.room sink) writer.sound n e c.in_err-ticket.ensures.does) }

pub returns : goal.returns
returns g c =
    let writer = c.args.writer.now in
    let sink = c.args.sink.now in
    record { written = λ n. written c.args.trail.now (mem writer.core) (mem c.open.new.self.core) (g.S.Sink.held sink) (g.S.Sink.room sink) writer.sound n c.in_ok-ticket.ensures.does c.fill-filled.result c.settle.result (mem c.fill-filled.new.writer.core) (mem c.settle.new.writer.core) (g.S.Sink.held c.settle.new.sink) (g.S.Sink.room c.settle.new.sink) c.fill-filled.ensures.makes c.settle.ensures.settles }
