use Rattle.xliff.specs.Bytes.{two}
use Rattle.xliff.specs.Encode.{code_bytes}
use Rattle.table.specs.Meaning.{fields}
use Rattle.writer.specs.Pieces.{bytes_of_mark, number_bytes}
use Rattle.item_records.proofs.PieceRuns.{none_yet, behind, written}
use mathlib.Core.Path.{refl}
use mathlib.Core.List.{[], ◌∷◌, ◌++◌}
use Rattle.item_records.proofs.put_code.Goals as goal

-- the mark, the three numbers, the four letters
pub returns : goal.returns
unfolding code_bytes two
returns c =
    let args = c.args in
    let f = args.f in
    let mark_bytes = bytes_of_mark args.mark.now in
    let mark = behind (none_yet args.out.now) mark_bytes c.put_mark-id_at.ensures in
    let id = behind mark (number_bytes f.id) c.put_number-copy_of_at.ensures in
    let copy_of = behind id (number_bytes f.copy_of) c.put_number-data_ref_at.ensures in
    let data-ref = behind copy_of (number_bytes f.data_ref) c.put_number-copy_at.ensures in
    let copy = behind data-ref (f.letters.copy ∷ []) c.put_byte-delete_at.ensures in
    let delete = behind copy (f.letters.delete ∷ []) c.put_byte-overlap_at.ensures in
    let overlap = behind delete (f.letters.overlap ∷ []) c.put_byte-reorder_at.ensures in
    let reorder = behind overlap (f.letters.reorder ∷ []) c.put_byte.ensures in
    written reorder (mark_bytes ++ code_bytes (fields f)) refl
