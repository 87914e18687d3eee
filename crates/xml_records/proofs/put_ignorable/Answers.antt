use Rattle.xliff.specs.Bytes.{two}
use Rattle.xliff.specs.Unit.{ignorable}
use Rattle.xliff.specs.Encode.{part_head, record_bytes, head_bytes}
use Rattle.xliff.specs.Parse.{is_part}
use Rattle.writer.specs.Pieces.{number_bytes}
use Rattle.item_records.proofs.PieceRuns.{none_yet, behind, written}
use Rattle.xml_records.proofs.ArrayLaws.{array_is}
use Rattle.xml_records.proofs.CollectLaws.{whole_head, collects_record_in_loan}
use native.Mathlib.Omega.{arith}
use mathlib.Core.Path.{refl}
use mathlib.Core.List.{[], ◌∷◌}
use lib.ListN.{replicate}
use Rattle.xml_records.proofs.put_ignorable.Goals as goal

-- the mark, the id; builder.put_record(&bytes, true)
pub returns : goal.returns
unfolding record_bytes head_bytes two is_part
returns c =
    let id = c.args.id in
    let bytes = record_bytes (part_head (ignorable id)) in
    let mark = behind (none_yet (replicate 4 0)) (73 ∷ 71 ∷ []) c.put_mark-id_at.ensures in
    let wrote = written (behind mark (number_bytes id) c.put_number.ensures) bytes refl in
    collects_record_in_loan c.put_record.ensures.put c.put_record.ensures.same (whole_head (ignorable id))
    (array_is bytes (replicate 4 0) wrote (omega arith)) refl
