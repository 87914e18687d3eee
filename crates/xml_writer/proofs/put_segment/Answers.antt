use Rattle.draft.proofs.DraftLaws.{wrote_then}
use Rattle.xliff.specs.Bytes.{gather}
use Rattle.xml.specs.Words.{'source', codes}
use Rattle.xml.specs.Write.{opening_tag}
use Rattle.xml_writer.proofs.put_segment.Goals as goal

-- draft.put(b"<source>")
pub returns : goal.returns
unfolding opening_tag gather 'source' codes
returns c =
    let put = c.put in
    let put-segment-tag = c.put_segment_tag in
    let put-part-end = c.put_part_end in
    wrote_then put-part-end.ensures (wrote_then put-segment-tag.ensures put.ensures)
