use Rattle.std.proofs.Common.{◌≡◌, Ok, Err, ◌∙◌, subst, rules}
use Rattle.std.proofs.lemmas.Result.{err_from_is_err_and}
use Rattle.model.specs.declared.place.Place.TheVariants.{Complete}
use Rattle.engine.specs.Memory.{mem}
use Rattle.writer.proofs.Finishing.{sent_full, sent_whole, all_of_it}
use Rattle.writer.proofs.sending.send.Goals as goal

pub returns-in_err-put : goal.returns-in_err-put
returns-in_err-put g c =
    let w = mem c.args.core.now in
    let s = c.args.sink.now in
    let s' = c.put.new.self in
    let whole = c.tail.ensures.value ∙ all_of_it w.stage in
    let at : w.place ≡ Complete = search rules in
    let p = err_from_is_err_and c.from_residual.result c.from_residual.ensures.1 in
    rw (p.1, p.2)
    (record {
      serves = sent_full w (g.S.Sink.room s) c.requires at c.tail.result.now whole _ (g.S.Sink.held s) (g.S.Sink.held s') (g.S.Sink.room s') c.in_err-put.ensures.puts;
      handed = (λ ne. absurd (ne at), λ e. subst (λ bs. g.S.Sink.leaves s bs (Err c.in_err-put.field-0.0) s') whole c.in_err-put.ensures.leaves);
    })

pub returns : goal.returns
returns g c =
    let w = mem c.args.core.now in
    let s = c.args.sink.now in
    let s' = c.put.new.self in
    let whole = c.tail.ensures.value ∙ all_of_it w.stage in
    let at : w.place ≡ Complete = search rules in
    record {
      serves = sent_whole w (g.S.Sink.room s) c.requires at c.tail.result.now whole (g.S.Sink.held s) (g.S.Sink.held s') (g.S.Sink.room s') (mem c.clear.new.self) c.in_ok-put.ensures.puts c.clear.ensures.memory;
      handed = (λ ne. absurd (ne at), λ e. subst (λ bs. g.S.Sink.leaves s bs (Ok tt) s') whole c.in_ok-put.ensures.leaves);
    }
