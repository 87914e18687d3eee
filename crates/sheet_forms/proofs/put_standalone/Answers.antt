use mathlib.Core.Path.{refl}
use native.Mathlib.Omega.{arith}
use mathlib.Core.List.{[], ◌∷◌}
use Rattle.sheet.specs.Column.{left_brace, end_form}
use Rattle.sheet.proofs.Widths.{end_within}
use Rattle.writer.proofs.PieceLaws.{two_written}
use Rattle.sheet_forms.proofs.put_standalone.Goals as goal

-- brace + end
pub overflow_add-result : goal.overflow_add-result
overflow_add-result c =
    let put_end = c.put_end-end in
    let put = c.put-brace in
    let args = c.args in
    omega (arith, put.ensures.0, put_end.ensures.0, end_within args.id)

-- brace + end
pub returns : goal.returns
returns c =
    let put_end = c.put_end-end in
    let put = c.put-brace in
    let args = c.args in
    two_written (left_brace ∷ []) (end_form args.id) _ args.piece.now
    put.new.out put_end.new.piece _ _ refl put.ensures put_end.ensures
