use mathlib.Core.Path.{ap}
use mathlib.Core.List.{[], ◌∷◌}
use Rattle.xliff.specs.Desk.{decimal}
use Rattle.sheet.specs.Column.{right_brace, end_form}
use Rattle.writer.proofs.PieceLaws.{two_written}
use Rattle.sheet_forms.proofs.put_end.Goals as goal

-- digits + brace
pub returns : goal.returns
unfolding end_form
returns c =
    let put = c.put-brace in
    let put-decimal = c.put_decimal-digits in
    let wide = c.wide in
    let args = c.args in
    let told = put-decimal.ensures in
    two_written (decimal wide.result) (right_brace ∷ []) (end_form args.id) args.piece.now
    put-decimal.new.out put.new.out _ _ (ap end_form wide.ensures.0) (told.0, told.1) put.ensures
