use Rattle.draft.proofs.DraftLaws.{wrote_nothing}
use Rattle.xml.specs.Words.{'source', 'target', 'segment', 'ignorable', codes}
use Rattle.xml.specs.Write.{closing_tag}
use Rattle.xml_writer.specs.Records.{part_end}
use Rattle.xml_writer.proofs.put_part_end.Goals as goal

-- draft
pub returns-in-Between : goal.returns-in-Between
unfolding part_end
returns-in-Between c =
    let pre = c.requires in
    rw c.in-Between.is wrote_nothing

-- b"</source></segment>"
pub returns-in-SegmentSource : goal.returns-in-SegmentSource
unfolding part_end closing_tag 'source' 'segment' codes
returns-in-SegmentSource c =
    let put = c.put in
    rw c.in-SegmentSource.is put.ensures

-- b"</target></segment>"
pub returns-in-SegmentTarget : goal.returns-in-SegmentTarget
unfolding part_end closing_tag 'target' 'segment' codes
returns-in-SegmentTarget c =
    let put2 = c.put-in-SegmentTarget in
    rw c.in-SegmentTarget.is put2.ensures

-- b"</source></ignorable>"
pub returns-in-IgnorableSource : goal.returns-in-IgnorableSource
unfolding part_end closing_tag 'source' 'ignorable' codes
returns-in-IgnorableSource c =
    let put3 = c.put-in-IgnorableSource in
    rw c.in-IgnorableSource.is put3.ensures

-- b"</target></ignorable>"
pub returns-in-IgnorableTarget : goal.returns-in-IgnorableTarget
unfolding part_end closing_tag 'target' 'ignorable' codes
returns-in-IgnorableTarget c =
    let put4 = c.put-in-IgnorableTarget in
    rw c.in-IgnorableTarget.is put4.ensures
