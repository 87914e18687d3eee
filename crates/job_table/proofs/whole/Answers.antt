use native.Mathlib.Omega.{arith}
use Rattle.job_table.proofs.SizeLaws.{whole_zero, whole_not, whole_yes}
use Rattle.job_table.proofs.whole.Goals as goal

-- return None: no record has no bytes
pub returns-then-n-eq0 : goal.returns-then-n-eq0
returns-then-n-eq0 c = whole_zero c.args.n c.args.t.now c.if-n-eq0.true

-- return None: it is cut
pub returns-then-t-n : goal.returns-then-t-n
returns-then-t-n c = whole_not c.args.n c.args.t.now c.if-t-n.true

-- Some(n)
pub returns : goal.returns
returns c = (whole_yes c.args.n c.args.t.now c.if-t-n.false, omega (arith, c.if-n-eq0.false))
