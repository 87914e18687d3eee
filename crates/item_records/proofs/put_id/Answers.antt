use Rattle.xliff.specs.Bytes.{two}
use Rattle.writer.specs.Pieces.{bytes_of_mark, number_bytes}
use Rattle.item_records.proofs.PieceRuns.{none_yet, behind, written}
use mathlib.Core.Path.{refl}
use mathlib.Core.List.{◌++◌}
use Rattle.item_records.proofs.put_id.Goals as goal

-- the mark, the id
pub returns : goal.returns
unfolding two
returns c =
    let args = c.args in
    let mark = bytes_of_mark args.mark.now in
    let marked = behind (none_yet args.out.now) mark c.put_mark-id_at.ensures in
    written (behind marked (number_bytes args.id) c.put_number.ensures) (mark ++ two args.id) refl
