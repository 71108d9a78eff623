use Rattle.std.proofs.Common.{sym, ap, ◌∙◌, inr}
use Rattle.model.specs.Calls.{val_variant_record, is_text_name}
use Rattle.records.proofs.tags.variant_record_at_content.Goals as goal

pub returns : goal.returns
returns c =
    let same = c.in_ok-text.ensures.same in
    let named = ap is_text_name same ∙ sym c.is_text_name.ensures.value ∙ c.if-is_text_name.false in
    record { does = λ room p at. c.enter.ensures.does room p (val_variant_record c.args.name.now) at (inr (ap val_variant_record (sym same), named)) }
