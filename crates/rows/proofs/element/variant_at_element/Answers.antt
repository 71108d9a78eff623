use Rattle.std.proofs.Common.{true, false, sym, refl, ◌∙◌}
use Rattle.model.specs.Calls.{val_variant}
use Rattle.engine.specs.Memory.{mem}
use Rattle.rows.proofs.Elemental.{element_empty, element_text, variant_child}
use Rattle.rows.proofs.element.variant_at_element.Goals as goal

pub returns-then-is_text_name : goal.returns-then-is_text_name
returns-then-is_text_name g c =
    let w = mem c.args.core.now in
    let s = c.args.name.value.now in
    record { does = λ room ρ e. element_empty (val_variant ρ s) room c.args.from w (mem c.write_empty.new.core) c.write_empty.result c.requires.place c.requires.safe c.in_ok-check_bytes.ensures.checked refl refl (variant_child ρ s true (sym c.is_text_name.ensures.value ∙ c.if-is_text_name.true)) c.write_empty.ensures.writes }

pub returns-else-is_text_name : goal.returns-else-is_text_name
returns-else-is_text_name g c =
    let w = mem c.args.core.now in
    let s = c.args.name.value.now in
    record {
      does = λ room ρ e.
          element_text (val_variant ρ s) room c.args.from w (mem c.write_text.new.core) c.write_text.result c.requires.place c.requires.safe c.in_ok-check_bytes.ensures.checked refl refl ρ s e (variant_child ρ s false (sym c.is_text_name.ensures.value ∙ c.if-is_text_name.false)) c.write_text.ensures.writes;
    }
