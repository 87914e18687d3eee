use Rattle.xliff.specs.Encode.{target_head, record_bytes}
use Rattle.xliff.specs.Parse.{is_part}
use Rattle.heads.proofs.HeadLaws.{target_long}
use Rattle.xml_records.proofs.ArrayLaws.{array_is}
use Rattle.xml_records.proofs.CollectLaws.{whole_target, collects_record_in_loan}
use native.Mathlib.Omega.{arith}
use mathlib.Core.Path.{refl}
use lib.ListN.{replicate}
use Rattle.xml_records.proofs.put_target_head.Goals as goal

-- heads::put_target_head(&mut bytes, order): the array is as long as a target's head
pub put_target_head-requires : goal.put_target_head-requires
put_target_head-requires c = omega (arith, target_long c.args.order)

-- builder.put_record(&bytes, false)
pub returns : goal.returns
unfolding is_part
returns c =
    let order = c.args.order in
    let bytes = record_bytes (target_head order) in
    let head = c.put_target_head.ensures in
    let wrote = array_is bytes (replicate 4 0) head (omega (arith, target_long order)) in
    collects_record_in_loan c.put_record.ensures.put c.put_record.ensures.same (whole_target order) wrote refl
