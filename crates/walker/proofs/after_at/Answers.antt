use native.Mathlib.Omega.{arith}
use Rattle.xliff.proofs.lists.Slices.{tail_is}
use Rattle.walker.proofs.OffsetLaws.{after_end, after_width}
use Rattle.walker.proofs.after_at.Goals as goal

pub returns-then-t-at : goal.returns-then-t-at
returns-then-t-at c = after_end c.args.t.now c.args.at (omega (arith, c.if-t-at.true))

pub returns : goal.returns
returns c = after_width c.args.t.now c.args.at _
    (simp tail_is at c.known_width.ensures)
