use Rattle.draft.proofs.DraftLaws.{wrote_then}
use Rattle.xml.specs.Words.{'unit', codes}
use Rattle.xml.specs.Write.{closing_tag}
use Rattle.xml_writer.proofs.put_unit_end.Goals as goal

-- draft.put(b"</unit>")
pub returns : goal.returns
unfolding closing_tag 'unit' codes
returns c =
    let put = c.put in
    let put-part-end = c.put_part_end in
    wrote_then put-part-end.ensures put.ensures
