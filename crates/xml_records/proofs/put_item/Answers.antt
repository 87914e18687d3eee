use Rattle.xliff.specs.Encode.{inline, record_bytes}
use Rattle.xliff.specs.Parse.{is_part}
use Rattle.table.specs.Meaning.{item}
use Rattle.item_records.proofs.ItemSizes.{item_long}
use Rattle.xml_records.proofs.ArrayLaws.{front_is}
use Rattle.xml_records.proofs.CollectLaws.{whole_item, collects_record_in_loan}
use native.Mathlib.Omega.{arith}
use mathlib.Core.Path.{refl, sym}
use lib.ListN.{replicate}
use lib.Seq.{length-take-le}
use Rattle.xml_records.proofs.put_item.Goals as goal

-- &bytes[..wide]: no item's record is longer than the array
pub slice_bounds-bytes-end : goal.slice_bounds-bytes-end
slice_bounds-bytes-end c =
    omega (arith, item_long c.args.x, c.put_item-wide.ensures.0)

-- &bytes[..wide]
pub slice_bounds-put_record-end : goal.slice_bounds-put_record-end
slice_bounds-put_record-end c =
    let put_item = c.put_item-wide in
    sym (length-take-le put_item.result put_item.new.out
    (omega (arith, item_long c.args.x, put_item.ensures.0)))

-- builder.put_record(&bytes[..wide], false)
pub returns : goal.returns
unfolding is_part
returns c =
    let x = c.args.x in
    let wrote = front_is (record_bytes (inline (item x))) (replicate 12 0) c.put_item-wide.ensures in
    collects_record_in_loan c.put_record.ensures.put c.put_record.ensures.same (whole_item x) wrote refl
