use Rattle.xml.specs.Words.{'mrk', 'sm', codes}
use Rattle.xml.specs.Write.{item_text, opening_tag, short_tag}
use Rattle.xml_items.proofs.put_annotation_start.Goals as goal

-- put_mark(draft, b"<mrk", i, translate, b">")
pub returns-in-P : goal.returns-in-P
unfolding item_text opening_tag 'mrk' codes
returns-in-P c =
    let put-mark = c.put_mark in
    rw c.in-P.is put-mark.ensures

-- put_mark(draft, b"<sm", i, translate, b"/>")
pub returns-in-S : goal.returns-in-S
unfolding item_text short_tag 'sm' codes
returns-in-S c =
    let put-mark2 = c.put_mark-in-S in
    rw c.in-S.is put-mark2.ensures
