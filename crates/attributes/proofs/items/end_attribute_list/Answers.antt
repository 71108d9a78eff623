use Rattle.std.proofs.Common.{ap}
use Rattle.std.proofs.lemmas.Result.{err_from_is_err_and}
use Rattle.engine.specs.Memory.{mem, popped}
use Rattle.attributes.proofs.Itemizing.{list_end, list_full}
use Rattle.attributes.proofs.items.end_attribute_list.Goals as goal

pub returns-in_err-insert : goal.returns-in_err-insert
returns-in_err-insert c =
    let kept = c.in_err-insert.ensures.inserts in
    let p = err_from_is_err_and c.from_residual.result c.from_residual.ensures.1 in
    rw (p.1, p.2, kept.0, kept.1) (record { does = λ room t at. list_full room (mem c.args.core.now) t c.requires.safe at kept.2 })

pub returns : goal.returns
returns c =
    let done = c.in_ok-insert.ensures.inserts in
    record { does = λ room t at. list_end room (mem c.args.core.now) t c.requires.safe at (popped (mem c.insert.new.core)) done.0 (ap popped done.1) }
