-- Each row relies on numbers that hold at its place, since the memory holds some model.
use Rattle.std.proofs.Common.{◌≡◌, ◌⊎◌, rules}
use Rattle.model.specs.declared.place.Place.TheVariants.{Text, Simple}
use Rattle.engine.specs.Memory.{mem}
use Rattle.places.proofs.Standing.{element_is_open, element_name_within, content_is_open, text_is_open, words_are_open, attribute_is_open, attribute_tag_within, attribute_list_is_open, attribute_list_tag_within, as_text, as_variant}
use Rattle.places.proofs.calls.take_value.Goals as goal

pub text_at_element-requires-clause-open : goal.text_at_element-requires-clause-open
text_at_element-requires-clause-open g c = element_is_open (mem c.args.core.now) c.requires.sound c.in-Element-Text.from c.in-Element-Text.is-0

pub text_at_element-requires-clause-name : goal.text_at_element-requires-clause-name
text_at_element-requires-clause-name g c = element_name_within (mem c.args.core.now) c.requires.sound c.in-Element-Text.from c.in-Element-Text.is-0

pub none_at_element-requires-clause-open : goal.none_at_element-requires-clause-open
none_at_element-requires-clause-open g c = element_is_open (mem c.args.core.now) c.requires.sound c.in-Element-Nothing.from c.in-Element-Nothing.is-0

pub none_at_element-requires-clause-name : goal.none_at_element-requires-clause-name
none_at_element-requires-clause-name g c = element_name_within (mem c.args.core.now) c.requires.sound c.in-Element-Nothing.from c.in-Element-Nothing.is-0

pub variant_at_element-requires-clause-open : goal.variant_at_element-requires-clause-open
variant_at_element-requires-clause-open g c = element_is_open (mem c.args.core.now) c.requires.sound c.in-Element-Variant.from c.in-Element-Variant.is-0

pub variant_at_element-requires-clause-name : goal.variant_at_element-requires-clause-name
variant_at_element-requires-clause-name g c = element_name_within (mem c.args.core.now) c.requires.sound c.in-Element-Variant.from c.in-Element-Variant.is-0

pub row_at_element-requires-clause-open : goal.row_at_element-requires-clause-open
row_at_element-requires-clause-open g c = element_is_open (mem c.args.core.now) c.requires.sound c.in-Element-Row.from c.in-Element-Row.is-0

pub record_at_element-requires-clause-open : goal.record_at_element-requires-clause-open
record_at_element-requires-clause-open g c = element_is_open (mem c.args.core.now) c.requires.sound c.in-Element-Record.from c.in-Element-Record.is-0

pub record_at_element-requires-clause-name : goal.record_at_element-requires-clause-name
record_at_element-requires-clause-name g c = element_name_within (mem c.args.core.now) c.requires.sound c.in-Element-Record.from c.in-Element-Record.is-0

pub text_at_content-requires-clause-open : goal.text_at_content-requires-clause-open
text_at_content-requires-clause-open g c = content_is_open (mem c.args.core.now) c.requires.sound c.in-Content-Text.texts c.in-Content-Text.is-0

pub none_at_content-requires-clause-open : goal.none_at_content-requires-clause-open
none_at_content-requires-clause-open g c = content_is_open (mem c.args.core.now) c.requires.sound c.in-Content-Nothing.field-0-0 c.in-Content-Nothing.is-0

pub variant_at_content-requires-clause-open : goal.variant_at_content-requires-clause-open
variant_at_content-requires-clause-open g c = content_is_open (mem c.args.core.now) c.requires.sound c.in-Content-Variant.field-0-0 c.in-Content-Variant.is-0

pub row_at_content-requires-clause-open : goal.row_at_content-requires-clause-open
row_at_content-requires-clause-open g c = content_is_open (mem c.args.core.now) c.requires.sound c.in-Content-Row.field-0-0 c.in-Content-Row.is-0

pub variant_row_at_content-requires-clause-open : goal.variant_row_at_content-requires-clause-open
variant_row_at_content-requires-clause-open g c = content_is_open (mem c.args.core.now) c.requires.sound c.in-Content-VariantRow.texts c.in-Content-VariantRow.is-0

pub record_at_content-requires-clause-open : goal.record_at_content-requires-clause-open
record_at_content-requires-clause-open g c = content_is_open (mem c.args.core.now) c.requires.sound c.in-Content-Record.field-0-0 c.in-Content-Record.is-0

pub variant_record_at_content-requires-clause-open : goal.variant_record_at_content-requires-clause-open
variant_record_at_content-requires-clause-open g c = content_is_open (mem c.args.core.now) c.requires.sound c.in-Content-VariantRecord.field-0-0 c.in-Content-VariantRecord.is-0

pub variant_at_text-requires-clause-open : goal.variant_at_text-requires-clause-open
variant_at_text-requires-clause-open g c = text_is_open (mem c.args.core.now) c.requires.sound c.in-Text-Variant.is-0

pub none_as_words-requires-clause-open : goal.none_as_words-requires-clause-open
none_as_words-requires-clause-open g c =
    let at : (c.args.core.now.place ≡ Text) ⊎ (c.args.core.now.place ≡ Simple) = search rules in
    words_are_open (mem c.args.core.now) c.requires.sound at

pub string_as_words-requires-clause-open : goal.string_as_words-requires-clause-open
string_as_words-requires-clause-open g c =
    let at : (c.args.core.now.place ≡ Text) ⊎ (c.args.core.now.place ≡ Simple) = search rules in
    words_are_open (mem c.args.core.now) c.requires.sound at

pub none_at_attribute-requires-clause-open : goal.none_at_attribute-requires-clause-open
none_at_attribute-requires-clause-open g c = attribute_is_open (mem c.args.core.now) c.requires.sound c.in-Attribute-Nothing.is-0

pub none_at_attribute-requires-clause-tag : goal.none_at_attribute-requires-clause-tag
none_at_attribute-requires-clause-tag g c = attribute_tag_within (mem c.args.core.now) c.requires.sound c.in-Attribute-Nothing.is-0

pub string_at_attribute-requires-clause-open : goal.string_at_attribute-requires-clause-open
string_at_attribute-requires-clause-open g c = attribute_is_open (mem c.args.core.now) c.requires.sound c.in-Attribute-Text.is-0

pub string_at_attribute-requires-clause-tag : goal.string_at_attribute-requires-clause-tag
string_at_attribute-requires-clause-tag g c = attribute_tag_within (mem c.args.core.now) c.requires.sound c.in-Attribute-Text.is-0

pub string_at_attribute_item-requires-clause-open : goal.string_at_attribute_item-requires-clause-open
string_at_attribute_item-requires-clause-open g c = attribute_list_is_open (mem c.args.core.now) c.requires.sound c.in-AttributeItem-Text.written c.in-AttributeItem-Text.is-0

pub string_at_attribute_item-requires-clause-tag : goal.string_at_attribute_item-requires-clause-tag
string_at_attribute_item-requires-clause-tag g c = attribute_list_tag_within (mem c.args.core.now) c.requires.sound c.in-AttributeItem-Text.written c.in-AttributeItem-Text.is-0

pub returns-in-Attribute-Text : goal.returns-in-Attribute-Text
returns-in-Attribute-Text g c =
    let text = as_text c.string_at_attribute.ensures.does in
    let variant = as_variant c.string_at_attribute.ensures.does in
    search rules

pub returns-in-TextItem-Text : goal.returns-in-TextItem-Text
returns-in-TextItem-Text g c =
    let text = as_text c.string_as_item.ensures.does in
    let variant = as_variant c.string_as_item.ensures.does in
    search rules

pub returns-in-AttributeItem-Text : goal.returns-in-AttributeItem-Text
returns-in-AttributeItem-Text g c =
    let text = as_text c.string_at_attribute_item.ensures.does in
    let variant = as_variant c.string_at_attribute_item.ensures.does in
    search rules

pub returns-in-Content-Nothing : goal.returns-in-Content-Nothing
returns-in-Content-Nothing g c =
    let a = c.in-Content-Nothing in
    record { does = λ room v is. let e = rw a.is-1 at is in rw e (c.none_at_content.ensures.does room a.field-0-0 a.is-0) }

pub returns-in-Content-Variant : goal.returns-in-Content-Variant
returns-in-Content-Variant g c =
    let a = c.in-Content-Variant in
    record { does = λ room v is. let e = rw a.is-1 at is in rw e.2 (c.variant_at_content.ensures.does room a.field-0-0 e.0 a.is-0) }

pub returns-in-Content-Row : goal.returns-in-Content-Row
returns-in-Content-Row g c =
    let a = c.in-Content-Row in
    record { does = λ room v is. let e = rw a.is-1 at is in rw e (c.row_at_content.ensures.does room a.field-0-0 a.is-0) }

pub returns-in-Content-Record : goal.returns-in-Content-Record
returns-in-Content-Record g c =
    let a = c.in-Content-Record in
    record { does = λ room v is. let e = rw a.is-1 at is in rw e (c.record_at_content.ensures.does room a.field-0-0 a.is-0) }

pub returns-in-Content-VariantRecord : goal.returns-in-Content-VariantRecord
returns-in-Content-VariantRecord g c =
    let a = c.in-Content-VariantRecord in
    record { does = λ room v is. let e = rw a.is-1 at is in rw e (c.variant_record_at_content.ensures.does room a.field-0-0 a.is-0) }
