use borrow.Author.Tests.{eq-eqb, ne_eqb}
use Rattle.letters.proofs.end_letter.Goals as goal

-- if c == b'F' { b'N' } else { c }
pub returns-then-c-eq70 : goal.returns-then-c-eq70
returns-then-c-eq70 c = simp (eq-eqb _ _ c.if-c-eq70.true)

-- if c == b'F' { b'N' } else { c }
pub returns-else-c-eq70 : goal.returns-else-c-eq70
returns-else-c-eq70 c = simp (ne_eqb _ _ c.if-c-eq70.false)
