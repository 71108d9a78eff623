use Rattle.std.proofs.Common.{sym, ap, inl}
use Rattle.model.specs.Calls.{val_record}
use Rattle.records.proofs.tags.record_at_content.Goals as goal

pub returns : goal.returns
returns c = record { does = λ room p at. c.enter.ensures.does room p (val_record c.args.name.now) at (inl (ap val_record (sym c.in_ok-name.ensures.same))) }
