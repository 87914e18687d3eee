use Rattle.draft.proofs.DraftLaws.{wrote_then, wrote_as}
use Rattle.xml.specs.Words.{'ignorable', 'source', 'id', codes}
use Rattle.xml_writer.proofs.RecordLaws.{ignorable_source}
use Rattle.xml_writer.proofs.put_ignorable.Goals as goal

-- draft.put(b"><source>")
pub returns : goal.returns
unfolding 'ignorable' 'source' 'id' codes
returns c =
    let put2 = c.put-2 in
    let put-unless-zero = c.put_unless_zero in
    let put = c.put in
    let put-part-end = c.put_part_end in
    let args = c.args in
    wrote_as (ignorable_source args.within args.i)
    (wrote_then put-part-end.ensures (wrote_then put.ensures (wrote_then put-unless-zero.ensures put2.ensures)))
