use Rattle.std.proofs.Common.{cond, [], Some, sym, refl, ap, ◌∙◌}
use Rattle.style.specs.declared.result.WriteResult.TheVariants.{SensitiveText}
use Rattle.xml.specs.declared.escape.Use.TheVariants.{Text as text_use}
use Rattle.xml.specs.Escaping.{escaped}
use Rattle.model.specs.Calls.{val_variant}
use Rattle.model.specs.Model.{text_spot}
use Rattle.model.specs.Step.{done, with_text}
use Rattle.engine.specs.Memory.{mem}
use Rattle.rows.proofs.Wording.{no_words, takes_text, spot_silent, spot_words}
use Rattle.rows.proofs.words.variant_at_text.Goals as goal

pub returns-then-is_text_name : goal.returns-then-is_text_name
returns-then-is_text_name g c =
    let s = c.args.name.value.now in
    let is = sym c.is_text_name.ensures.value ∙ c.if-is_text_name.true in
    record {
      does = λ room ρ e.
          spot_silent (val_variant ρ s) room (mem c.args.core.now) (mem c.settle.new.self) c.requires.safe c.in_ok-check_bytes.ensures.checked refl text_spot c.requires.place (takes_text (val_variant ρ s) refl) SensitiveText
          (λ rs l ls. ap (λ t. Some (done SensitiveText (with_text l.body (cond t [] (escaped (ρ.chooses text_use) s))))) is ∙ ap (λ x. Some (done SensitiveText x)) (no_words l.body)) c.settle.ensures.memory;
    }

pub returns-else-is_text_name : goal.returns-else-is_text_name
returns-else-is_text_name g c =
    let w = mem c.args.core.now in
    let s = c.args.name.value.now in
    let is = sym c.is_text_name.ensures.value ∙ c.if-is_text_name.false in
    record {
      does = λ room ρ e.
          spot_words (val_variant ρ s) room w (mem c.write_words.new.core) c.requires.safe c.in_ok-check_bytes.ensures.checked refl text_spot c.requires.place (takes_text (val_variant ρ s) refl) c.write_words.result ρ s e
          (λ rs l ls. ap (λ t. Some (done SensitiveText (with_text l.body (cond t [] (escaped (ρ.chooses text_use) s))))) is) c.write_words.ensures.writes;
    }
