use Rattle.xliff.specs.Encode.{opening, record_bytes}
use Rattle.xliff.specs.Parse.{is_part}
use Rattle.xliff.specs.Unit.{Opening}
use Rattle.item_records.proofs.PieceRuns.{none_yet, behind, written}
use Rattle.xml_records.proofs.ArrayLaws.{array_is}
use Rattle.xml_records.proofs.CollectLaws.{whole_opening, collects_record_in_loan}
use native.Mathlib.Omega.{arith}
use mathlib.Core.Path.{refl}
use mathlib.Core.List.{[], ◌∷◌}
use lib.ListN.{replicate}
use Rattle.xml_records.proofs.put_opening.Goals as goal

-- the mark, the letter; builder.put_record(&bytes, false)
pub returns : goal.returns
unfolding record_bytes is_part
returns c =
    let letter = c.args.can_resegment in
    let o : Opening = record { can_resegment = letter } in
    let bytes = record_bytes (opening o) in
    let mark = behind (none_yet (replicate 3 0)) (85 ∷ 78 ∷ []) c.put_mark-letter_at.ensures in
    let wrote = written (behind mark (letter ∷ []) c.put_byte.ensures) bytes refl in
    collects_record_in_loan c.put_record.ensures.put c.put_record.ensures.same (whole_opening o)
    (array_is bytes (replicate 3 0) wrote (omega arith)) refl
