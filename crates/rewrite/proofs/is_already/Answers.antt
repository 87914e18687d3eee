use borrow.Author.Tests.{eq-eqb, ne_eqb}
use Rattle.rewrite.proofs.is_already.Goals as goal

-- if form == b'P' { is_p } else { !is_p }
pub returns-then-form-eq80 : goal.returns-then-form-eq80
returns-then-form-eq80 c = rw (eq-eqb _ _ c.if-form-eq80.true)

-- if form == b'P' { is_p } else { !is_p }
pub returns-else-form-eq80 : goal.returns-else-form-eq80
returns-else-form-eq80 c = rw (ne_eqb _ _ c.if-form-eq80.false)
