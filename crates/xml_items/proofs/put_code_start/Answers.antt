use Rattle.draft.proofs.DraftLaws.{wrote_then}
use Rattle.xml.specs.Words.{'copyOf', codes}
use Rattle.xml_tags.proofs.TagLaws.{attributes_then}
use Rattle.xml_items.proofs.put_code_start.Goals as goal

-- the tag, the id, the copy_of
pub returns : goal.returns
unfolding 'copyOf' codes
returns c =
    let put-unless-zero = c.put_unless_zero in
    let put-number = c.put_number in
    let put = c.put in
    wrote_then put.ensures (attributes_then _ _ put-number.ensures put-unless-zero.ensures)
