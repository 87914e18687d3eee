use Rattle.xml_element.proofs.TagLaws.{tag_flawed}
use Rattle.xml_element.proofs.attributes_at.Goals as goal

-- Err(flaw) => Err(Blamed { place: flaw.place(tag.place, text.len()) })
pub returns-in-Err : goal.returns-in-Err
returns-in-Err c = rw c.place.ensures (tag_flawed c.args.text.now c.args.tag _ c.in-Err.ensures)
