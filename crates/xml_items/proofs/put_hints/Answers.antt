use Rattle.xml.specs.Words.{'canCopy', 'canDelete', codes}
use Rattle.xml.specs.Write.{hints}
use Rattle.xml_tags.proofs.TagLaws.{attributes_then}
use Rattle.xml_items.proofs.put_hints.Goals as goal

-- canCopy, canDelete, canOverlap, canReorder
pub returns : goal.returns
unfolding hints 'canCopy' 'canDelete' codes
returns c =
    let put-reorder = c.put_reorder in
    let put-overlap = c.put_overlap in
    let put-yes-no2 = c.put_yes_no-2 in
    let put-yes-no = c.put_yes_no in
    attributes_then _ _ put-yes-no.ensures
    (attributes_then _ _ put-yes-no2.ensures (attributes_then _ _ put-overlap.ensures put-reorder.ensures))
