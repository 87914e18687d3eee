use Rattle.xml.specs.Words.{'sc', 'ec', 'id', 'yes', codes}
use Rattle.xml.specs.Write.{item_text, short_tag}
use Rattle.xml_items.proofs.put_isolated.Goals as goal

-- put_half(draft, b"<sc", b"id", b"yes", f)
pub returns-in-Start : goal.returns-in-Start
unfolding item_text short_tag 'sc' 'id' 'yes' codes
returns-in-Start c =
    let put-half = c.put_half in
    rw c.in-Start.is put-half.ensures

-- put_half(draft, b"<ec", b"id", b"yes", f)
pub returns-in-End : goal.returns-in-End
unfolding item_text short_tag 'ec' 'id' 'yes' codes
returns-in-End c =
    let put-half2 = c.put_half-in-End in
    rw c.in-End.is put-half2.ensures
