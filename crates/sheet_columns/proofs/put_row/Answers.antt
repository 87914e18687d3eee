use mathlib.Core.Path.{refl, sym, ◌∙◌}
use Rattle.sheet_columns.proofs.StepLaws.{so_far_start, more_room, goes, so_far_on, falls, row_put}
use Rattle.sheet_columns.proofs.put_row.Goals as goal

-- before the first item
pub loop-row-init : goal.loop-row-init
loop-row-init c = so_far_start c.args.c.now _ c.args.draft.now refl refl

-- row.put_next(draft, c)
pub put_next-requires : goal.put_next-requires
put_next-requires c =
    let loop = c.loop-row in
    let (more, cells, ahead) = more_room loop.row _ (sym c.goes_on.ensures ∙ c.loop-row-test.true) in
    (goes c.args.c.now _ _ loop.row loop.draft c.requires loop.invariant more, cells, ahead)

-- fewer bytes are ahead, or the row is full
pub loop-row-smaller : goal.loop-row-smaller
loop-row-smaller c =
    let loop = c.loop-row in
    falls c.args.c.now _ _ loop.row loop.draft c.requires loop.invariant _ _ c.put_next.ensures
    (sym c.goes_on.ensures ∙ c.loop-row-test.true)

-- one step more
pub loop-row-preserved : goal.loop-row-preserved
loop-row-preserved c =
    let loop = c.loop-row in
    so_far_on c.args.c.now _ _ loop.row loop.draft c.requires loop.invariant _ _ c.put_next.ensures

-- the row with its padding
pub returns : goal.returns
returns c =
    let loop = c.loop-row in
    row_put c.args.c.now _ _ loop.row loop.draft c.requires loop.invariant
    (sym c.goes_on.ensures ∙ c.loop-row-test.false) refl _ c.put_blanks.ensures
