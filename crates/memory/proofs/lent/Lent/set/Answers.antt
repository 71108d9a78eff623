use Rattle.memory.proofs.Lending.{take_stored}
use Rattle.memory.proofs.lent.Lent.set.Goals as goal

pub returns-clause-all : goal.returns-clause-all
returns-clause-all g c = take_stored c.args.self.now.most c.args.self.now.all.now c.args.at c.args.item c.requires
