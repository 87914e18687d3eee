use native.Mathlib.Omega.{arith}
use Rattle.writer.proofs.PieceLaws.{at_head, head_long}
use Rattle.table.specs.Meaning.{item}
use Rattle.draft.proofs.DraftLaws.{wrote_as}
use Rattle.sheet.specs.Column.{shown}
use Rattle.sheet.proofs.Widths.{shown_short}
use Rattle.sheet_columns.proofs.StepLaws.{item_filled, full_filled}
use Rattle.sheet_columns.proofs.Filling.put_marker.Goals as goal

-- self.full = true
pub returns-then-self-cells : goal.returns-then-self-cells
returns-then-self-cells c =
    let put_item = c.put_item-cells in
    let ((some, more), none, next) = c.requires in
    full_filled c.args.c.now c.args.self.now more none c.args.i c.args.w next c.args.draft.now put_item.result
    put_item.ensures.0 c.if-self-cells.true

-- &piece[..cells]
pub slice_bounds-piece-end : goal.slice_bounds-piece-end
slice_bounds-piece-end c =
    let put_item = c.put_item-cells in
    omega (arith, put_item.ensures.0, shown_short (item c.args.i))

-- &piece[..cells]
pub slice_bounds-put-end : goal.slice_bounds-put-end
slice_bounds-put-end c =
    let put_item = c.put_item-cells in
    head_long (shown (item c.args.i)) _ put_item.new.piece put_item.result put_item.ensures.0 put_item.ensures.1

-- self.next.at += w
pub overflow_add-self : goal.overflow_add-self
overflow_add-self c =
    let (going, none, next) = c.requires in
    omega (arith, next.fits)

-- the marker is written
pub returns : goal.returns
returns c =
    let put_item = c.put_item-cells in
    let ((some, more), none, next) = c.requires in
    let form = at_head (shown (item c.args.i)) _ put_item.new.piece put_item.result put_item.ensures.0
    put_item.ensures.1 in
    item_filled c.args.c.now c.args.self.now more none c.args.i c.args.w next c.args.draft.now put_item.result
    put_item.ensures.0 c.if-self-cells.false _ (wrote_as form c.put.ensures)
