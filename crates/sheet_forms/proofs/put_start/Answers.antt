use mathlib.Core.Path.{ap}
use mathlib.Core.List.{[], ◌∷◌}
use Rattle.xliff.specs.Desk.{decimal}
use Rattle.sheet.specs.Column.{left_brace, start_form}
use Rattle.writer.proofs.PieceLaws.{two_written}
use Rattle.sheet_forms.proofs.put_start.Goals as goal

-- brace + digits
pub returns : goal.returns
unfolding start_form
returns c =
    let put-decimal = c.put_decimal-digits in
    let wide = c.wide in
    let put = c.put-brace in
    let args = c.args in
    let told = put-decimal.ensures in
    two_written (left_brace ∷ []) (decimal wide.result) (start_form args.id) args.piece.now
    put.new.out put-decimal.new.out _ _ (ap start_form wide.ensures.0) put.ensures (told.0, told.1)
