use Rattle.std.proofs.Common.{◌≡◌, ◌∙◌, Some, None, Ok, Err, sym, subst, refl, ap}
use Rattle.std.proofs.lemmas.Result.{err_from_is_err_and}
use Rattle.script.specs.Script.{Next}
use Rattle.runner.specs.Feeding.{holds, nothing, Feeds, Ends, BreaksOff, Takes}
use Rattle.runner.proofs.Reaching.{gains_none, reached_start, line_taken, line_fails, script_stops, script_ends}
use Rattle.runner.proofs.feeding.Feeding.feed.Goals as goal

pub loop-numbered-init : goal.loop-numbered-init
loop-numbered-init g c =
    let s = c.args.self.now in
    let new = c.new-script.ensures in
    (refl, (nothing, reached_start s.output c.args.text.now c.new-script.result.reader c.at_start-batch.result new.rest new.read new.phase c.at_start-batch.ensures.section, gains_none (holds g.O.Outlet.contents g.E.Outlet.contents s)))

pub loop-numbered-preserved : goal.loop-numbered-preserved
loop-numbered-preserved g c =
    let out = g.O.Outlet.contents in
    let err = g.E.Outlet.contents in
    let s = c.args.self.now in
    let l = c.loop-numbered in
    let t = c.take.new.self in
    let n = c.in-Ok-Some.numbered in
    let x = c.in_ok-take-in-Ok-Some.field-0 in
    let m = holds out err l.self in
    let z = holds out err t in
    let next : Next (Ok (Some n)) l.script.reader c.next_line.new.self.reader = rw c.in-Ok-Some.field-0-is at c.in-Ok-Some.ensures.next in
    let takes : Takes s.output l.batch n c.take.new.batch (Ok x) m z = subst (λ o. Takes o l.batch n c.take.new.batch (Ok x) m z) l.invariant.0 c.in_ok-take-in-Ok-Some.ensures.takes in
    (c.take.ensures.output ∙ l.invariant.0, line_taken s.output c.args.text.now l.script.reader c.next_line.new.self.reader l.batch l.invariant.1.0 (holds out err s) m z l.invariant.1.1 l.invariant.1.2 c.take.new.batch n x next takes)

pub returns-in_err-take-in-Ok-Some-clause-output : goal.returns-in_err-take-in-Ok-Some-clause-output
returns-in_err-take-in-Ok-Some-clause-output g c = c.take.ensures.output ∙ c.loop-numbered.invariant.0

pub returns-in_err-take-in-Ok-Some-clause-feeds : goal.returns-in_err-take-in-Ok-Some-clause-feeds
returns-in_err-take-in-Ok-Some-clause-feeds g c =
    let out = g.O.Outlet.contents in
    let err = g.E.Outlet.contents in
    let s = c.args.self.now in
    let l = c.loop-numbered in
    let t = c.take.new.self in
    let n = c.in-Ok-Some.numbered in
    let x = c.in_err-take-in-Ok-Some.field-0.0 in
    let m = holds out err l.self in
    let z = holds out err t in
    let next : Next (Ok (Some n)) l.script.reader c.next_line.new.self.reader = rw c.in-Ok-Some.field-0-is at c.in-Ok-Some.ensures.next in
    let takes : Takes s.output l.batch n c.take.new.batch (Err x) m z = subst (λ o. Takes o l.batch n c.take.new.batch (Err x) m z) l.invariant.0 c.in_err-take-in-Ok-Some.ensures.takes in
    let p = err_from_is_err_and c.from_residual.result c.from_residual.ensures.1 in
    let is : c.from_residual.result ≡ Err x = p.1 ∙ ap Err p.2 in
    subst (λ r. Feeds s.output c.args.text.now r (holds out err s) z) (sym is) (line_fails s.output c.args.text.now l.script.reader c.next_line.new.self.reader l.batch c.take.new.batch l.invariant.1.0 (holds out err s) m z n x l.invariant.1.1 l.invariant.1.2 next takes)

pub returns-in-Ok-None-clause-output : goal.returns-in-Ok-None-clause-output
returns-in-Ok-None-clause-output g c = c.end.ensures.output ∙ c.loop-numbered.invariant.0

pub returns-in-Ok-None-clause-feeds : goal.returns-in-Ok-None-clause-feeds
returns-in-Ok-None-clause-feeds g c =
    let out = g.O.Outlet.contents in
    let err = g.E.Outlet.contents in
    let s = c.args.self.now in
    let l = c.loop-numbered in
    let t = c.end.new.self in
    let m = holds out err l.self in
    let z = holds out err t in
    let next : Next (Ok None) l.script.reader c.next_line.new.self.reader = rw c.in-Ok-None.field-0-is at c.in-Ok-None.ensures.next in
    let ends : Ends s.output l.batch c.end.result m z = subst (λ o. Ends o l.batch c.end.result m z) l.invariant.0 c.end.ensures.ends in
    script_ends s.output c.args.text.now l.script.reader c.next_line.new.self.reader l.batch l.invariant.1.0 (holds out err s) m z l.invariant.1.1 l.invariant.1.2 c.end.result next ends

pub returns-in-Err-clause-output : goal.returns-in-Err-clause-output
returns-in-Err-clause-output g c = c.break_off.ensures.output ∙ c.loop-numbered.invariant.0

pub returns-in-Err-clause-feeds : goal.returns-in-Err-clause-feeds
returns-in-Err-clause-feeds g c =
    let out = g.O.Outlet.contents in
    let err = g.E.Outlet.contents in
    let s = c.args.self.now in
    let l = c.loop-numbered in
    let t = c.break_off.new.self in
    let e = c.in-Err.error in
    let m = holds out err l.self in
    let z = holds out err t in
    let next : Next (Err e) l.script.reader c.next_line.new.self.reader = c.in-Err.ensures.next in
    let breaks : BreaksOff s.output l.batch e c.break_off.result m z = subst (λ o. BreaksOff o l.batch e c.break_off.result m z) l.invariant.0 c.break_off.ensures.breaks in
    script_stops s.output c.args.text.now l.script.reader c.next_line.new.self.reader l.batch l.invariant.1.0 (holds out err s) m z l.invariant.1.1 l.invariant.1.2 e c.break_off.result next breaks
