use Rattle.std.proofs.Common.{sym, ap, ◌∙◌}
use Rattle.std.proofs.lemmas.Result.{err_from_is_err_and}
use Rattle.engine.specs.Memory.{mem, popped, settled}
use Rattle.nests.proofs.Leaving.{row_end, row_refused}
use Rattle.nests.proofs.ends.end_row.Goals as goal

pub returns-in_err-row : goal.returns-in_err-row
returns-in_err-row c =
    let kept = c.in_err-row.ensures.pops in
    let p = err_from_is_err_and c.from_residual.result c.from_residual.ensures.1 in
    rw (p.1, p.2, kept.0, kept.1) (record { does = λ room. row_refused room c.args.kind (mem c.args.core.now) c.requires.place kept.2 })

pub returns : goal.returns
returns c =
    let w = mem c.args.core.now in
    let row = c.in_ok-row.ensures.pops in
    record {
      does = λ room. row_end room c.args.kind w c.requires.place (mem c.settle.new.self) c.requires.safe (sym (ap (λ f. f.kind) row.1) ∙ row.2)
          (c.settle.ensures.memory ∙ ap (settled c.in_ok-row.row.last) row.3 ∙ ap (λ f. settled f.last (popped w)) row.1);
    }
