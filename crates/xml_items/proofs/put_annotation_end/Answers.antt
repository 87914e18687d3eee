use Rattle.xml.specs.Words.{'mrk', codes}
use Rattle.xml.specs.Write.{item_text, closing_tag}
use Rattle.xml_items.proofs.put_annotation_end.Goals as goal

-- draft.put(b"</mrk>")
pub returns-in-P : goal.returns-in-P
unfolding item_text closing_tag 'mrk' codes
returns-in-P c =
    let put = c.put in
    rw c.in-P.is put.ensures

-- put_em(draft, i)
pub returns-in-S : goal.returns-in-S
returns-in-S c =
    let put-em = c.put_em in
    rw c.in-S.is put-em.ensures
