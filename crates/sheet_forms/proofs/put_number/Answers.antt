use Rattle.xliff.specs.Desk.{decimal}
use Rattle.draft.proofs.DraftLaws.{wrote_as}
use Rattle.writer.proofs.PieceLaws.{at_head, head_long}
use Rattle.sheet_forms.proofs.FormLaws.{aligned}
use Rattle.sheet_forms.proofs.put_number.Goals as goal

-- &digits[..k]
pub slice_bounds-put_between-end : goal.slice_bounds-put_between-end
slice_bounds-put_between-end c =
    let put = c.put_decimal-k in
    let args = c.args in
    head_long (decimal args.n) _ put.new.out put.result put.ensures.0 put.ensures.1

-- put_between(draft, blanks, &digits[..k], 0)
pub returns : goal.returns
returns c =
    let between = c.put_between in
    let put = c.put_decimal-k in
    let args = c.args in
    let told = put.ensures in
    let there = at_head (decimal args.n) _ put.new.out put.result told.0 told.1 in
    wrote_as (aligned args.cells (decimal args.n) there told.0 c.saturating_sub.ensures) between.ensures
