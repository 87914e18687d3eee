use Rattle.xliff.specs.Bytes.{gather}
use Rattle.draft.proofs.DraftLaws.{wrote_nothing}
use Rattle.xml.specs.Words.{'canOverlap', codes}
use Rattle.xml_items.proofs.put_overlap.Goals as goal

-- xml_tags::put_yes_no(draft, b"canOverlap", letter)
pub returns-then-shown : goal.returns-then-shown
unfolding 'canOverlap' codes
returns-then-shown c = rw c.if-shown.true c.put_yes_no.ensures

-- no attribute
pub returns-else-shown : goal.returns-else-shown
unfolding gather
returns-else-shown c = rw c.if-shown.false wrote_nothing
