use Rattle.std.proofs.Common.{◌≡◌, ◌∷◌, [], ◌++◌, sym, ap, ◌∙◌, subst, rules, take, ◌+◌}
use Rattle.std.proofs.lemmas.List.{map_push}
use Rattle.xml.specs.Escaping.{level_chooses}
use Rattle.writer.specs.Spelled.{CallsAre}
use Rattle.writer.specs.Replayed.{calls_of}
use Rattle.feed.specs.Making.{calls_made}
use Rattle.feed.proofs.Making.{one_more}
use Rattle.feed.proofs.calling.steps_of.Goals as goal

pub loop-line-preserved : goal.loop-line-preserved
loop-line-preserved c =
    let l = c.loop-line in
    let made = c.call.result in
    let longer : c.push.new.self.items ≡ l.steps.items ++ c.new.result ∷ [] = search rules in
    let calls : calls_of c.push.new.self.items ≡ calls_of l.steps.items ++ made ∷ [] = ap calls_of longer ∙ map_push (λ s. s.call) l.steps.items c.new.result ∙ ap (λ x. calls_of l.steps.items ++ x ∷ []) c.new.ensures.call in
    subst (λ xs. CallsAre level_chooses xs (calls_made (take (l.line-index + 1) c.args.lines.now))) (sym calls) (one_more c.args.lines.now l.line-index c.line-item.result (calls_of l.steps.items) made c.loop-line-test.true c.line-item.is l.invariant c.call.ensures.makes)
