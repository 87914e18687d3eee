use Rattle.xliff.specs.Unit.{segment}
use Rattle.xliff.specs.Encode.{record_bytes, head_bytes}
use Rattle.xliff.specs.Parse.{is_part}
use Rattle.table.specs.Meaning.{segment_meaning}
use Rattle.heads.proofs.HeadLaws.{segment_long}
use Rattle.xml_records.proofs.ArrayLaws.{array_is}
use Rattle.xml_records.proofs.CollectLaws.{whole_head, collects_record_in_loan}
use native.Mathlib.Omega.{arith}
use mathlib.Core.Path.{refl}
use lib.ListN.{replicate}
use Rattle.xml_records.proofs.put_segment.Goals as goal

-- heads::put_segment(&mut bytes, f): the array is as long as a segment's head
pub put_segment-requires : goal.put_segment-requires
put_segment-requires c = omega (arith, segment_long (segment_meaning c.args.f))

-- builder.put_record(&bytes, true)
pub returns : goal.returns
unfolding record_bytes is_part
returns c =
    let f = segment_meaning c.args.f in
    let bytes = head_bytes (segment f) in
    let head = c.put_segment.ensures in
    let wrote = array_is bytes (replicate 6 0) head (omega (arith, segment_long f)) in
    collects_record_in_loan c.put_record.ensures.put c.put_record.ensures.same (whole_head (segment f)) wrote refl
