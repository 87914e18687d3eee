use borrow.Author.Tests.{eq-eqb, ne_eqb}
use Rattle.part_refusals.proofs.letter_or.Goals as goal

pub returns-then-d-eq45 : goal.returns-then-d-eq45
returns-then-d-eq45 c = simp (eq-eqb _ _ c.if-d-eq45.true)

-- if d == b'-' { unit } else { d }
pub returns-else-d-eq45 : goal.returns-else-d-eq45
returns-else-d-eq45 c = simp (ne_eqb _ _ c.if-d-eq45.false)
