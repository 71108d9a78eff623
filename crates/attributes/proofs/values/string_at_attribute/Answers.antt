use Rattle.std.proofs.Common.{◌-◌, ◌++◌, codes}
use Rattle.xml.specs.declared.escape.Use.TheVariants.{Attribute as attribute_use}
use Rattle.model.specs.declared.place.Place.TheVariants.{Field}
use Rattle.engine.specs.Memory.{mem}
use Rattle.rows.proofs.Elemental.{by_rule}
use Rattle.attributes.specs.Inserts.{Inserts}
use Rattle.attributes.proofs.Valuing.{attribute_string}
use Rattle.attributes.proofs.values.string_at_attribute.Goals as goal

pub returns : goal.returns
returns g c =
    let w = mem c.args.core.now in
    let v = mem c.insert.new.core in
    let r = c.insert.result in
    let s = c.args.string.value.now in
    let is = c.escaped-value.ensures in
    let inserts = rw (is.value, is.rule, is.target) at c.insert.ensures.inserts in
    record {
      does = λ room ρ x e d.
          attribute_string room w v x ρ s r d c.requires.place c.requires.safe c.in_ok-check_bytes.ensures.checked
          (by_rule (λ z. Inserts r (w.frames.used - 1) (z ++ codes "\"") Field w v) ρ attribute_use s e inserts);
    }
