use borrow.Author.Tests.{eq-eqb, ne_eqb}
use Rattle.xliff.specs.Rules.{end_letter}
use Rattle.whole_pair.proofs.is_unfit.Goals as goal

-- return !(end == b'N')
pub returns-then-start-eq70 : goal.returns-then-start-eq70
unfolding end_letter
returns-then-start-eq70 c = rw (eq-eqb _ _ c.if-start-eq70.true)

-- !(end == start)
pub returns : goal.returns
unfolding end_letter
returns c = rw (ne_eqb _ _ c.if-start-eq70.false)
