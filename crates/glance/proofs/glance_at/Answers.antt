use native.Mathlib.Omega.{arith}
use Rattle.xliff.proofs.lists.Slices.{tail_is}
use Rattle.glance.proofs.GlanceLaws.{nothing_glanced}
use Rattle.glance.proofs.glance_at.Goals as goal

-- beyond the end
pub returns-then-s-at : goal.returns-then-s-at
returns-then-s-at c =
    let args = c.args in
    nothing_glanced args.s.now args.at _ (omega (arith, c.if-s-at.true))

-- the record at the head of the rest
pub returns : goal.returns
returns c = simp tail_is at c.glance_of.ensures
