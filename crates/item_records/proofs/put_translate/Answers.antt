use Rattle.xliff.specs.Bytes.{two}
use Rattle.writer.specs.Pieces.{bytes_of_mark}
use Rattle.item_records.proofs.PieceRuns.{stands, behind, written}
use native.Mathlib.Omega.{arith}
use mathlib.Core.Path.{refl}
use mathlib.Core.List.{[], ◌∷◌, ◌++◌}
use Rattle.item_records.proofs.put_translate.Goals as goal

-- writer::put_byte(out, translate_at, translate): four bytes stand before it
pub put_byte-requires : goal.put_byte-requires
unfolding two
put_byte-requires c =
    let (four, last) = c.put_id-translate_at.ensures in
    omega arith

-- the mark and the id, the letter
pub returns : goal.returns
returns c =
    let args = c.args in
    let piece = bytes_of_mark args.mark.now ++ two args.id in
    let letter = args.translate ∷ [] in
    let id = stands piece args.out.now c.put_id-translate_at.ensures in
    written (behind id letter c.put_byte.ensures) (piece ++ letter) refl
