use Rattle.engine.specs.Memory.{mem}
use Rattle.places.proofs.Standing.{field_is_open, field_in_record, field_name_within, attribute_list_is_open, attribute_list_tag_within}
use Rattle.places.proofs.calls.end_at.Goals as goal

pub end_record-requires-clause-open : goal.end_record-requires-clause-open
end_record-requires-clause-open c = field_is_open (mem c.args.core.now) c.requires.sound c.in-Field.is

pub end_record-requires-clause-records : goal.end_record-requires-clause-records
end_record-requires-clause-records c = field_in_record (mem c.args.core.now) c.requires.sound c.in-Field.is

pub end_record-requires-clause-name : goal.end_record-requires-clause-name
end_record-requires-clause-name c = field_name_within (mem c.args.core.now) c.requires.sound c.in-Field.is

pub end_attribute_list-requires-clause-open : goal.end_attribute_list-requires-clause-open
end_attribute_list-requires-clause-open c = attribute_list_is_open (mem c.args.core.now) c.requires.sound c.in-AttributeItem.field-0 c.in-AttributeItem.is

pub end_attribute_list-requires-clause-tag : goal.end_attribute_list-requires-clause-tag
end_attribute_list-requires-clause-tag c = attribute_list_tag_within (mem c.args.core.now) c.requires.sound c.in-AttributeItem.field-0 c.in-AttributeItem.is
