use Rattle.std.proofs.Common.{None, rules}
use Rattle.feed.proofs.Sections.{goes_extends}
use Rattle.feed.proofs.batch.Batch.take.Goals as goal

pub returns-in_ok-add_call-in-Calls-clause-section : goal.returns-in_ok-add_call-in-Calls-clause-section
returns-in_ok-add_call-in-Calls-clause-section c = goes_extends None c.args.self.now c.add_call.new.self c.args.numbered (search rules)

pub returns-in-Sets-clause-section : goal.returns-in-Sets-clause-section
returns-in-Sets-clause-section c = goes_extends None c.args.self.now c.set.new.self c.args.numbered (search rules)
