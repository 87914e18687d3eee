use native.Mathlib.Omega.{arith}
use Rattle.text.proofs.points.lead.Goals as goal

-- a byte that goes on with a code point
pub returns-then-b : goal.returns-then-b
returns-then-b c = (simp c.if-b.true, omega arith)

-- a first byte
pub returns-else-b : goal.returns-else-b
returns-else-b c = (simp c.if-b.false, omega arith)
