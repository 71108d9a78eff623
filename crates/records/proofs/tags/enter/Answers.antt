use Rattle.model.proofs.Spelling.{utf8_from}
use Rattle.engine.specs.Memory.{mem}
use Rattle.records.proofs.Entering.{enter_told}
use Rattle.records.proofs.tags.enter.Goals as goal

pub returns : goal.returns
returns c =
    let n = c.args.name.now in
    let opens = rw c.lead-lead.ensures.value at c.open_record.ensures.opens in
    record { does = λ room p v at is. enter_told room (mem c.args.core.now) (mem c.open_record.new.self) n p v c.requires.safe at (utf8_from n c.utf8.name) is c.open_record.result opens }
