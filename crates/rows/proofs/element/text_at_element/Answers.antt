use Rattle.std.proofs.Common.{◌≡◌, length, refl, rules}
use Rattle.model.specs.Calls.{val_text}
use Rattle.engine.specs.Memory.{mem}
use Rattle.rows.proofs.Elemental.{element_empty, element_text, text_none, text_some}
use Rattle.rows.proofs.element.text_at_element.Goals as goal

pub returns-then-is_empty : goal.returns-then-is_empty
returns-then-is_empty g c =
    let w = mem c.args.core.now in
    let s = c.args.text.value.now in
    let empty : length s ≡ 0 = search rules in
    record { does = λ room ρ e. element_empty (val_text ρ s) room c.args.from w (mem c.write_empty.new.core) c.write_empty.result c.requires.place c.requires.safe c.in_ok-check_bytes.ensures.checked refl refl (text_none ρ s empty) c.write_empty.ensures.writes }

pub returns-else-is_empty : goal.returns-else-is_empty
returns-else-is_empty g c =
    let w = mem c.args.core.now in
    let s = c.args.text.value.now in
    let some : length s ≡ 0 → ⊥ = search rules in
    record {
      does = λ room ρ e.
          element_text (val_text ρ s) room c.args.from w (mem c.write_text.new.core) c.write_text.result c.requires.place c.requires.safe c.in_ok-check_bytes.ensures.checked refl refl ρ s e (text_some ρ s some) c.write_text.ensures.writes;
    }
