use Rattle.draft.proofs.DraftLaws.{wrote_nothing, wrote_then, wrote_as}
use Rattle.sheet_forms.proofs.FormLaws.{column_more, whole_blanks}
use Rattle.sheet_forms.proofs.put_blanks.Goals as goal

-- before the first column of blanks
pub loop-i-init : goal.loop-i-init
loop-i-init c = wrote_nothing

-- draft.put(&blanks)
pub loop-i-preserved : goal.loop-i-preserved
loop-i-preserved c = wrote_as (column_more c.loop-i.i) (wrote_then c.loop-i.invariant c.put.ensures)

-- draft.put(&blanks[..n % COLUMN_CELLS])
pub returns : goal.returns
returns c =
    let loop = c.loop-i in
    wrote_as (whole_blanks c.args.n loop.i c.loop-i-test.false loop.auto.i-end)
    (wrote_then loop.invariant c.put-2.ensures)
