use Rattle.draft.proofs.DraftLaws.{wrote_then}
use Rattle.xml.specs.Words.{'source', 'target', 'order', codes}
use Rattle.xml.specs.Write.{opening_tag, closing_tag}
use Rattle.xml_writer.proofs.put_target.Goals as goal

-- draft.put(b">")
pub returns : goal.returns
unfolding opening_tag closing_tag 'source' 'target' 'order' codes
returns c =
    let put2 = c.put-2 in
    let put-number = c.put_number in
    let put = c.put in
    wrote_then put.ensures (wrote_then put-number.ensures put2.ensures)
