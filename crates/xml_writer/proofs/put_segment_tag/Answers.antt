use Rattle.draft.proofs.DraftLaws.{wrote_then}
use Rattle.xml.specs.Words.{'segment', 'id', 'canResegment', codes}
use Rattle.xml.specs.Write.{opening_tag, head_name, head_attributes}
use Rattle.xml_tags.proofs.TagLaws.{attributes_then}
use Rattle.xml_writer.proofs.put_segment_tag.Goals as goal

-- draft.put(b">")
pub returns : goal.returns
unfolding opening_tag head_name head_attributes 'segment' 'id' 'canResegment' codes
returns c =
    let put2 = c.put-2 in
    let put-state = c.put_state in
    let put-unless-hyphen = c.put_unless_hyphen in
    let put-unless-zero = c.put_unless_zero in
    let put = c.put in
    wrote_then put.ensures
    (wrote_then
    (attributes_then _ _ put-unless-zero.ensures (attributes_then _ _ put-unless-hyphen.ensures put-state.ensures))
    put2.ensures)
