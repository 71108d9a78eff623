use Rattle.memory.proofs.Lending.{part_usable}
use Rattle.memory.proofs.lent.Lent.part.Goals as goal

pub returns-clause-value : goal.returns-clause-value
returns-clause-value g c = part_usable c.args.self.now.most c.args.from c.args.end c.args.self.now.all.now c.requires.order c.requires.within
