use Rattle.draft.proofs.DraftLaws.{wrote_then}
use Rattle.xml.specs.Words.{'em', 'startRef', codes}
use Rattle.xml.specs.Write.{item_text, short_tag}
use Rattle.xml_items.proofs.put_em.Goals as goal

-- draft.put(b"/>")
pub returns : goal.returns
unfolding item_text short_tag 'em' 'startRef' codes
returns c =
    let put2 = c.put-2 in
    let put-number = c.put_number in
    let put = c.put in
    wrote_then put.ensures (wrote_then put-number.ensures put2.ensures)
