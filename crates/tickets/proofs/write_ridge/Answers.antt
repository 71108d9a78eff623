use Rattle.std.proofs.Common.{[], ◌++◌, codes, sym, refl, subst}
use Rattle.xml.specs.Escaping.{level_chooses}
use Rattle.xml.specs.declared.escape.QuoteLevel.TheVariants.{Partial}
use Rattle.model.specs.Rules.{level_rule}
use Rattle.model.specs.Calls.{call_open, call_field, call_value, call_end, call_finish, val_text}
use Rattle.writer.specs.Spelled.{CallIs}
use Rattle.tickets.specs.GoingOn.{begun, ended}
use Rattle.tickets.proofs.GoingOn.{as_one}
use Rattle.tickets.proofs.write_ridge.Goals as goal

pub returns : goal.returns
returns g c =
    let opens = subst (λ z. CallIs level_chooses z (call_open (codes "sheet"))) (sym c.new.ensures.call) refl in
    let field = subst (λ z. CallIs level_chooses z (call_field (codes "trail"))) (sym c.new-2.ensures.call) refl in
    let text = subst (λ z. CallIs level_chooses z (call_value (val_text (level_rule Partial) (codes "Grat")))) (sym c.new-3.ensures.call) (val_text (level_rule Partial) (codes "Grat"), (level_rule Partial, refl, refl), refl) in
    let end = subst (λ z. CallIs level_chooses z call_end) (sym c.new-4.ensures.call) refl in
    let finish = subst (λ z. CallIs level_chooses z call_finish) (sym c.new-5.ensures.call) refl in
    record {
      goes_on = λ x hs qs r h.
          let one = (c.replay-open.ensures.replayed begun (opens, (field, tt))).grows x hs qs r h in
          let two = (c.replay-over.ensures.replayed ended (text, (end, (finish, tt)))).grows x (hs ++ begun) _ r one in
          let three = (c.replay.ensures.replayed [] tt).grows x ((hs ++ begun) ++ ended) _ r two in
          as_one x hs begun ended [] qs _ _ _ r _ _ _ three;
    }
