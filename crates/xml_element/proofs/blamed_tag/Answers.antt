use Rattle.xml_attributes.proofs.SlotLaws.{all_absent}
use Rattle.xml_element.proofs.TagLaws.{whole_blamed, faulty_blamed}
use Rattle.xml_element.proofs.blamed_tag.Goals as goal

-- attributes_at(text, tag, &mut slots)
pub attributes_at-requires : goal.attributes_at-requires
attributes_at-requires c = (c.requires, all_absent)

-- Ok(_) => Blamed { place: tag.place }
pub returns-in-Ok : goal.returns-in-Ok
returns-in-Ok c = whole_blamed c.args.text.now c.args.tag _ _ c.in-Ok.ensures

-- Err(blamed) => blamed
pub returns-in-Err : goal.returns-in-Err
returns-in-Err c = faulty_blamed c.args.text.now c.args.tag _ c.in-Err.ensures
