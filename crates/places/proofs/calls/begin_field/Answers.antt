use Rattle.engine.specs.Memory.{mem}
use Rattle.places.proofs.Standing.{field_is_open, field_tag_within}
use Rattle.places.proofs.calls.begin_field.Goals as goal

pub field-requires-clause-open : goal.field-requires-clause-open
field-requires-clause-open c = field_is_open (mem c.args.core.now) c.requires.sound c.in-Field.is

pub field-requires-clause-tag : goal.field-requires-clause-tag
field-requires-clause-tag c = field_tag_within (mem c.args.core.now) c.requires.sound c.in-Field.is
