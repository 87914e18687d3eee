use Rattle.xliff.specs.Item.{mark, character}
use Rattle.xliff.specs.Encode.{inline, record_bytes, field_bytes}
use Rattle.writer.specs.Pieces.{number_bytes}
use Rattle.item_records.proofs.PieceRuns.{none_yet, behind, written, four_halves}
use Prim.Native.Nat.{ℕ, ◌/◌, ◌%◌}
use mathlib.Core.Path.{ap}
use mathlib.Core.List.{List, [], ◌∷◌}
use Rattle.item_records.proofs.put_character.Goals as goal

-- the mark, the high half of the number, the low half
pub returns : goal.returns
unfolding record_bytes mark field_bytes
returns c =
    let args = c.args in
    let x = args.c in
    let mark = behind (none_yet args.out.now) (67 ∷ 80 ∷ []) c.put_mark-high_at.ensures in
    let high = behind mark (number_bytes (x / 65536)) c.put_number-low_at.ensures in
    let low = behind high (number_bytes (x % 65536)) c.put_number.ensures in
    written low (record_bytes (inline (character x))) (ap (λ (l : List ℕ). 67 ∷ 80 ∷ l) (four_halves x))
