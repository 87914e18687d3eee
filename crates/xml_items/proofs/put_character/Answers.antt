use Rattle.draft.proofs.DraftLaws.{wrote_then}
use Rattle.xml.specs.Words.{'cp', 'hex', codes}
use Rattle.xml.specs.Write.{item_text, short_tag}
use Rattle.xml_tags.proofs.TagLaws.{value_as}
use Rattle.xml_items.proofs.ItemLaws.{four_digits}
use Rattle.xml_items.proofs.put_character.Goals as goal

-- the tag with its digits
pub returns : goal.returns
unfolding item_text short_tag 'cp' 'hex' codes
returns c =
    let digits = four_digits c.args.c c.requires c.to_be_bytes.result c.to_be_bytes.ensures c.hex_digit.ensures
    c.hex_digit-2.ensures c.hex_digit-3.ensures c.hex_digit-4.ensures in
    wrote_then c.put.ensures (wrote_then (value_as 'hex' digits c.put_attribute.ensures) c.put-2.ensures)
