use Rattle.std.proofs.Common.{◌≡◌, [], ◌++◌, length, ◌⊎◌, inl, inr, ⊎_elim, ap, ◌∙◌, sym, subst, rules}
use Rattle.std.proofs.lemmas.List.{append-nil}
use Rattle.std.specs.Io.KnownBytes.{Appends}
use Rattle.feed.specs.Telling.{told}
use Rattle.runner.specs.Printing.{ended, refused_told}
use Rattle.runner.proofs.Lines.{appends_none, appends_then, refused_next, refused_passed, refused_done}
use Rattle.runner.proofs.printing.print_refused.Goals as goal

pub loop-call-init : goal.loop-call-init
loop-call-init g c = ([], appends_none (g.E.Outlet.contents c.args.err.now), search rules)

pub loop-call-preserved-in-Continue-1 : goal.loop-call-preserved-in-Continue-1
loop-call-preserved-in-Continue-1 g c =
    let held = g.E.Outlet.contents in
    let l = c.loop-call in
    let rest = l.call-iterator in
    let left = c.next.new.self in
    let call = c.in-Some.call.now in
    let line = ended (told call.number c.in-Err.refusal) in
    let step = c.in-Some.ensures.steps in (
      l.invariant.0 ++ line,
      appends_then (held c.args.err.now) (held l.err) (held c.print_refusal.new.err) l.invariant.0 line l.invariant.1 c.in_ok-print_refusal.ensures.told,
      refused_next l.invariant.0 (refused_told c.args.calls.now c.args.answers.now) rest.a.rest.now left.a.rest.now rest.b.rest.now left.b.rest.now call c.in-Some.answer.now c.in-Err.refusal step.0 step.1 c.in-Err.is l.invariant.2,
    )

pub loop-call-preserved : goal.loop-call-preserved
loop-call-preserved g c =
    let l = c.loop-call in
    let rest = l.call-iterator in
    let left = c.next.new.self in
    let step = c.in-Some.ensures.steps in
    (l.invariant.0, l.invariant.1, refused_passed l.invariant.0 (refused_told c.args.calls.now c.args.answers.now) rest.a.rest.now left.a.rest.now rest.b.rest.now left.b.rest.now c.in-Some.call.now c.in-Some.answer.now c.in_default.field-0 step.0 step.1 c.in_default.is l.invariant.2)

pub returns-clause-told : goal.returns-clause-told
returns-clause-told g c =
    let l = c.loop-call in
    let xs = l.call-iterator.a.rest.now in
    let ys = l.call-iterator.b.rest.now in
    let ends : (length xs ≡ 0) ⊎ (length ys ≡ 0) = ⊎_elim (λ p. inl p.1.0) (λ p. inr p.1.0) c.in-None.ensures.steps in
    let all = sym (append-nil l.invariant.0) ∙ ap (λ z. l.invariant.0 ++ z) (sym (refused_done xs ys ends)) ∙ l.invariant.2 in
    subst (λ z. Appends (g.E.Outlet.contents c.args.err.now) (g.E.Outlet.contents l.err) z) all l.invariant.1
