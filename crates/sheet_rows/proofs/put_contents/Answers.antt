use mathlib.Core.Path.{sym, ◌∙◌}
use Rattle.sheet_columns.proofs.CursorLaws.{ahead_start}
use Rattle.sheet_rows.proofs.LaterLaws.{shown_start, shown_on, shown_end, fewer_left}
use Rattle.sheet_rows.proofs.put_contents.Goals as goal

-- columns.put_row(draft, source, target), the first row
pub put_row-requires : goal.put_row-requires
put_row-requires c =
    let ((xs, h), (ys, k)) = c.requires in
    ((xs, ahead_start c.args.source.now xs h), (ys, ahead_start c.args.target.now ys k))

pub loop-columns-init : goal.loop-columns-init
loop-columns-init c = shown_start c.args.source.now c.args.target.now _ _ _ c.put_row.ensures

-- columns.put_row(draft, source, target), a later row
pub put_row-requires-in-loop-columns : goal.put_row-requires-in-loop-columns
put_row-requires-in-loop-columns c =
    let ((xs, h), (ys, k)) = c.requires in
    let shown = c.loop-columns.invariant xs ys h k in
    ((shown.sources, shown.source_ahead), (shown.targets, shown.target_ahead))

pub loop-columns-smaller : goal.loop-columns-smaller
loop-columns-smaller c =
    let (source, target, put) = c.put_row-in-loop-columns.ensures in
    fewer_left c.args.source.now c.args.target.now c.loop-columns.columns _
    (sym c.goes_on.ensures ∙ c.loop-columns-test.true) source target

pub loop-columns-preserved : goal.loop-columns-preserved
loop-columns-preserved c =
    let loop = c.loop-columns in
    λ xs ys h k.
    shown_on c.args.source.now c.args.target.now _ loop.columns loop.draft xs ys (loop.invariant xs ys h k)
    (sym c.goes_on.ensures ∙ c.loop-columns-test.true) _ c.put_blanks.ensures _ _ c.put_row-in-loop-columns.ensures

-- no column goes on
pub returns : goal.returns
returns c =
    let loop = c.loop-columns in
    λ xs ys h k.
    shown_end c.args.source.now c.args.target.now _ loop.columns loop.draft xs ys (loop.invariant xs ys h k)
    (sym c.goes_on.ensures ∙ c.loop-columns-test.false)
