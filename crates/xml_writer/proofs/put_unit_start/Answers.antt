use Rattle.draft.proofs.DraftLaws.{wrote_then}
use Rattle.xml.specs.Words.{'unit', 'id', 'canResegment', codes}
use Rattle.xml.specs.Write.{opening_tag}
use Rattle.xml_tags.proofs.TagLaws.{attributes_then}
use Rattle.xml_writer.proofs.put_unit_start.Goals as goal

-- draft.put(b">")
pub returns : goal.returns
unfolding opening_tag 'unit' 'id' 'canResegment' codes
returns c =
    let put2 = c.put-2 in
    let put-yes-no = c.put_yes_no in
    let put-number = c.put_number in
    let put = c.put in
    wrote_then put.ensures (wrote_then (attributes_then _ _ put-number.ensures put-yes-no.ensures) put2.ensures)
