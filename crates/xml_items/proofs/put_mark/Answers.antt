use Rattle.draft.proofs.DraftLaws.{wrote_then}
use Rattle.xml.specs.Words.{'id', 'translate', codes}
use Rattle.xml.specs.Write.{mark_attributes}
use Rattle.xml_tags.proofs.TagLaws.{attributes_then}
use Rattle.xml_items.proofs.put_mark.Goals as goal

-- draft.put(end)
pub returns : goal.returns
unfolding mark_attributes 'id' 'translate' codes
returns c =
    let put2 = c.put-2 in
    let put-unless-hyphen = c.put_unless_hyphen in
    let put-number = c.put_number in
    let put = c.put in
    wrote_then put.ensures (wrote_then (attributes_then _ _ put-number.ensures put-unless-hyphen.ensures) put2.ensures)
