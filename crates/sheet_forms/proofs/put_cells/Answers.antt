use native.Mathlib.Omega.{arith}
use mathlib.Core.Path.{◌∙◌}
use lib.ListN.{length-set}
use Rattle.draft.proofs.DraftLaws.{wrote_as}
use Rattle.sheet_forms.proofs.FormLaws.{cells_more, cells_whole}
use Rattle.sheet_forms.proofs.put_cells.Goals as goal

-- cells[i] = cell_of(piece[i])
pub loop-i-preserved : goal.loop-i-preserved
loop-i-preserved c =
    let loop = c.loop-i in
    let so-far = loop.invariant in (
      length-set loop.cells loop.i c.cell_of.result ∙ so-far.0,
      cells_more c.args.piece.now loop.cells loop.i c.cell_of.result (omega arith) (omega (arith, so-far.0, c.requires))
          c.cell_of.ensures so-far.1,
    )

-- draft.put(&cells[..piece.len()])
pub returns : goal.returns
returns c =
    let loop = c.loop-i in
    wrote_as (cells_whole c.args.piece.now loop.cells loop.i c.loop-i-test.false loop.auto.i-end loop.invariant.1) c.put.ensures
