-- Calls that hand nothing to the sink leave it as it was; a finish promises the rest itself.
use Rattle.std.proofs.Common.{Ok, Err, sym, refl, subst}
use Rattle.model.specs.Calls.{call_open, call_field, call_value, call_end, call_abandon}
use Rattle.engine.specs.Memory.{mem}
use Rattle.writer.specs.declared.call.Call.TheVariants.{Value as value_call}
use Rattle.writer.specs.Spelled.{CallIs}
use Rattle.writer.specs.Served.{Serves}
use Rattle.writer.proofs.Sinking.{serves_as}
use Rattle.writer.proofs.replay.serve.Goals as goal

pub returns-in-Ok-clause-serves : goal.returns-in-Ok-clause-serves
returns-in-Ok-clause-serves g c =
    let w = mem c.args.writer.now.core in
    let room = g.S.Sink.room c.args.sink.now in
    λ d is. serves_as (call_open c.in-Open.name.now) d (Ok tt) w (mem c.open.new.self.core) (g.S.Sink.held c.args.sink.now) room (subst (λ x. CallIs g.R.EscapeRule.chooses x d) c.in-Open.is is) (λ m. refl) (c.in-Ok.ensures.does room)

pub returns-in-Err-clause-serves : goal.returns-in-Err-clause-serves
returns-in-Err-clause-serves g c =
    let w = mem c.args.writer.now.core in
    let room = g.S.Sink.room c.args.sink.now in
    λ d is. serves_as (call_open c.in-Open.name.now) d (Err c.in-Err.refusal) w (mem c.open.new.self.core) (g.S.Sink.held c.args.sink.now) room (subst (λ x. CallIs g.R.EscapeRule.chooses x d) c.in-Open.is is) (λ m. refl) (c.in-Err.ensures.does room)

pub returns-in-Field-clause-serves : goal.returns-in-Field-clause-serves
returns-in-Field-clause-serves g c =
    let w = mem c.args.writer.now.core in
    let room = g.S.Sink.room c.args.sink.now in
    λ d is. serves_as (call_field c.in-Field.key.now) d c.field.result w (mem c.field.new.self.core) (g.S.Sink.held c.args.sink.now) room (subst (λ x. CallIs g.R.EscapeRule.chooses x d) c.in-Field.is is) (λ m. refl) (c.field.ensures.does room)

pub returns-in-Value-clause-serves : goal.returns-in-Value-clause-serves
returns-in-Value-clause-serves g c =
    let w = mem c.args.writer.now.core in
    let room = g.S.Sink.room c.args.sink.now in
    λ d is.
    let said : CallIs g.R.EscapeRule.chooses (value_call c.in-Value.value) d = (subst (λ x. CallIs g.R.EscapeRule.chooses x d) c.in-Value.is is) in
    serves_as (call_value said.0) d c.value.result w (mem c.value.new.self.core) (g.S.Sink.held c.args.sink.now) room said.2 (λ m. refl) (c.value.ensures.does room said.0 said.1)

pub returns-in-End-clause-serves : goal.returns-in-End-clause-serves
returns-in-End-clause-serves g c =
    let w = mem c.args.writer.now.core in
    let room = g.S.Sink.room c.args.sink.now in
    λ d is. serves_as call_end d c.end.result w (mem c.end.new.self.core) (g.S.Sink.held c.args.sink.now) room (subst (λ x. CallIs g.R.EscapeRule.chooses x d) c.in-End.is is) (λ m. refl) (c.end.ensures.does room)

pub returns-in-Abandon-clause-serves : goal.returns-in-Abandon-clause-serves
returns-in-Abandon-clause-serves g c =
    let w = mem c.args.writer.now.core in
    let v = mem c.drop_record.new.self.core in
    let held = g.S.Sink.held c.args.sink.now in
    let room = g.S.Sink.room c.args.sink.now in
    λ d is. subst (λ r. Serves d r w v held room held room) (sym c.spent_on-in-Abandon.ensures.answer) (serves_as call_abandon d c.drop_record.result w v held room (subst (λ x. CallIs g.R.EscapeRule.chooses x d) c.in-Abandon.is is) (λ m. refl) (c.drop_record.ensures.does room))
