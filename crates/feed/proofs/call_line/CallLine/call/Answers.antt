use Rattle.std.proofs.Common.{rules, refl}
use Rattle.model.specs.Calls.{call_value, val_text, val_none, val_variant, val_wrapped, val_row, val_variant_row, val_record, val_variant_record}
use Rattle.model.specs.Rules.{level_rule}
use Rattle.feed.proofs.call_line.CallLine.call.Goals as goal

pub returns-in-Text : goal.returns-in-Text
returns-in-Text c =
    let v = val_text (level_rule c.args.self.now.level) c.deref-in-Text.result.now in
    record { makes = (call_value v, (v, (level_rule c.args.self.now.level, refl, refl), refl), search rules) }

pub returns-in-Nothing : goal.returns-in-Nothing
returns-in-Nothing c = record { makes = (call_value val_none, (val_none, refl, refl), search rules) }

pub returns-in-Variant : goal.returns-in-Variant
returns-in-Variant c =
    let v = val_variant (level_rule c.args.self.now.level) c.deref-in-Variant.result.now in
    record { makes = (call_value v, (v, (level_rule c.args.self.now.level, refl, refl), refl), search rules) }

pub returns-in-Wrapped : goal.returns-in-Wrapped
returns-in-Wrapped c =
    let v = val_wrapped c.deref-in-Wrapped.result.now in record { makes = (call_value v, (v, refl, refl), search rules) }

pub returns-in-Row : goal.returns-in-Row
returns-in-Row c = record { makes = (call_value val_row, (val_row, refl, refl), search rules) }

pub returns-in-VariantRow : goal.returns-in-VariantRow
returns-in-VariantRow c =
    let v = val_variant_row c.deref-in-VariantRow.result.now in record { makes = (call_value v, (v, refl, refl), search rules) }

pub returns-in-Record : goal.returns-in-Record
returns-in-Record c =
    let v = val_record c.deref-in-Record.result.now in record { makes = (call_value v, (v, refl, refl), search rules) }

pub returns-in-VariantRecord : goal.returns-in-VariantRecord
returns-in-VariantRecord c =
    let v = val_variant_record c.deref-in-VariantRecord.result.now in record { makes = (call_value v, (v, refl, refl), search rules) }
