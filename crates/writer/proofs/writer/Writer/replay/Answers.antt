use Rattle.std.proofs.Common.{◌<◌, length, refl, ◌∙◌, arith}
use Rattle.std.proofs.lemmas.List.{length-map}
use Rattle.std.proofs.Math.Seq.{map-set_same}
use Rattle.std.specs.Option.{is_some}
use Rattle.engine.specs.Memory.{mem}
use Rattle.writer.specs.Replayed.{calls_of, answers_of}
use Rattle.writer.proofs.Meaning.{calls_meant}
use Rattle.writer.proofs.Stepping.{none_yet, step_more, all_of_them}
use Rattle.writer.proofs.Replaying.{replayed}
use Rattle.writer.proofs.writer.Writer.replay.Goals as goal

pub loop-i-init : goal.loop-i-init
loop-i-init g c = (refl, none_yet g.S.Sink.held g.S.Sink.room g.S.Sink.leaves (is_some c.args.held) (mem c.args.self.now.core) c.args.sink.now g.R.EscapeRule.chooses (calls_of c.args.steps.now) (answers_of c.args.steps.now))

pub loop-i-preserved : goal.loop-i-preserved
loop-i-preserved g c =
    let l = c.loop-i in
    let read = c.index-steps-i.result in
    let stored = c.index-steps-i-in-loop-i.result in
    let last = c.serve-answer.new in
    let low : l.i < length l.steps = omega (arith, c.loop-i-test.true, l.auto.steps) in (
      map-set_same (λ s. s.call) l.steps l.i _ stored refl ∙ l.invariant.0,
      step_more g.S.Sink.held g.S.Sink.room g.S.Sink.leaves (is_some c.args.held) (mem c.args.self.now.core) c.args.sink.now g.R.EscapeRule.chooses (calls_of c.args.steps.now) l.steps l.i read _
          (mem l.self.core) (mem last.writer.core) l.sink last.sink (is_some l.held) (is_some c.serve-answer.result.1)
          l.invariant.0 low l.invariant.1 c.serve-answer.ensures.serves c.serve-answer.ensures.sink c.serve-answer.ensures.ticket,
    )

pub returns : goal.returns
returns g c =
    let l = c.loop-i in
    let held = g.S.Sink.held in
    let room = g.S.Sink.room in
    let calls = calls_of c.args.steps.now in
    let w = mem c.args.self.now.core in
    let made = all_of_them held room g.S.Sink.leaves (is_some c.args.held) w c.args.sink.now g.R.EscapeRule.chooses calls l.i (answers_of l.steps) (mem l.self.core) l.sink (is_some l.held)
    (omega (arith, c.loop-i-test.false, length-map c.args.steps.now (λ s. s.call))) (omega (arith, c.loop-i-test.false, l.auto.steps, length-map l.steps (λ s. s.answer))) l.invariant.1 in
    record {
      calls = l.invariant.0;
      meant = calls_meant g.R.EscapeRule.chooses g.met.R.EscapeRule.within g.met.R.EscapeRule.enough calls;
      ticket = λ cs are. (made cs are).ticket;
      replayed = λ cs are. replayed held room g.S.Sink.leaves cs (answers_of l.steps) w (mem l.self.core) c.args.sink.now l.sink c.args.self.now.sound (made cs are).chain;
    }
