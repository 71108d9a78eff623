use Rattle.std.proofs.Common.{sym, ◌∙◌}
use Rattle.engine.specs.Memory.{mem}
use Rattle.records.proofs.Varying.{variant_silent, variant_told}
use Rattle.records.proofs.variants.variant_at_content.Goals as goal

pub returns-then-is_text_name : goal.returns-then-is_text_name
returns-then-is_text_name c =
    record { does = λ room p ρ at. variant_silent room ρ c.args.name.now p (mem c.args.core.now) c.requires.safe at c.in_ok-text.ensures.checked (mem c.settle.new.self) (sym c.is_text_name.ensures.value ∙ c.if-is_text_name.true) c.settle.ensures.memory }

pub returns : goal.returns
returns c =
    let named = rw c.in_ok-text.ensures.same at c.in_ok-check_name.ensures.checked in
    record { does = λ room p ρ at. variant_told room ρ c.args.name.now p (mem c.args.core.now) c.requires.safe at c.in_ok-text.ensures.checked (sym c.is_text_name.ensures.value ∙ c.if-is_text_name.false) (mem c.write_element.new.core) c.write_element.result named c.write_element.ensures.writes }
