use native.Mathlib.Omega.{arith}
use Rattle.walker.proofs.OffsetLaws.{no_width}
use Rattle.walker.proofs.width_there.Goals as goal

-- `t.len() < at`
pub returns-then-t-at : goal.returns-then-t-at
returns-then-t-at c =
    let args = c.args in
    no_width args.t.now args.at (omega (arith, c.if-t-at.true))

-- `t.len() - at < 4`
pub returns-then-t-at-lt4 : goal.returns-then-t-at-lt4
returns-then-t-at-lt4 c =
    let args = c.args in
    no_width args.t.now args.at (omega (arith, c.if-t-at-lt4.true))
