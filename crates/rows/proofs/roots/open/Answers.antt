use Rattle.engine.specs.Memory.{mem}
use Rattle.rows.proofs.Rooting.{open_told}
use Rattle.rows.proofs.roots.open.Goals as goal

pub returns : goal.returns
returns c =
    let told = c.in_ok-text.ensures in
    let opens = rw told.same at c.open_record.ensures.opens in
    record { does = λ room. open_told c.args.name.now room (mem c.args.core.now) (mem c.open_record.new.self) c.requires.safe c.requires.place told.checked c.open_record.result opens }
