use native.Mathlib.Omega.{arith}
use Rattle.xliff.proofs.lists.Slices.{tail_is}
use Rattle.walker.proofs.OffsetLaws.{no_mark_there}
use Rattle.walker.proofs.mark_there.Goals as goal

-- `t.len() < at`
pub returns-then-t-at : goal.returns-then-t-at
returns-then-t-at c =
    let args = c.args in
    no_mark_there args.t.now args.at (omega (arith, c.if-t-at.true))

-- the mark of the rest
pub returns : goal.returns
returns c = simp tail_is at c.mark_of.ensures
