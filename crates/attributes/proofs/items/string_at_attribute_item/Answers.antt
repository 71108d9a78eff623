use Rattle.std.proofs.Common.{◌≡◌, ◌-◌, true, ◌++◌, length, rules}
use Rattle.xml.specs.declared.escape.Use.TheVariants.{AttributeItem as attribute_item_use}
use Rattle.model.specs.declared.place.Place.TheVariants.{AttributeItem}
use Rattle.model.specs.Step.{gap}
use Rattle.engine.specs.Memory.{mem}
use Rattle.rows.proofs.Elemental.{by_rule}
use Rattle.attributes.specs.Inserts.{Inserts}
use Rattle.attributes.proofs.Itemizing.{item_written}
use Rattle.attributes.proofs.items.string_at_attribute_item.Goals as goal

pub returns : goal.returns
returns g c =
    let w = mem c.args.core.now in
    let v = mem c.insert.new.core in
    let r = c.insert.result in
    let s = c.args.string.value.now in
    let t = c.args.written in
    let some : length s ≡ 0 → ⊥ = search rules in
    let is = c.escaped-item.ensures in
    let inserts = rw (c.gap.ensures.value, is.value, is.rule, is.target) at c.insert.ensures.inserts in
    record {
      does = λ room ρ x e d.
          item_written room w v t x ρ s r d c.requires.place c.requires.safe c.in_ok-check_bytes.ensures.checked some
          (by_rule (λ z. Inserts r (w.frames.used - 2) (gap t ++ z) (AttributeItem true) w v) ρ attribute_item_use s e inserts);
    }
