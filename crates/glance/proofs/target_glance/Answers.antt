use borrow.Author.Tests.{lt-leb, le-leb}
use Rattle.glance.proofs.target_glance.Goals as goal

-- it is cut
pub returns-then-t-lt-TARGET_WIDTH : goal.returns-then-t-lt-TARGET_WIDTH
returns-then-t-lt-TARGET_WIDTH c = simp (c.item_glance.ensures, lt-leb _ _ c.if-t-lt-TARGET_WIDTH.true)

-- its order
pub returns : goal.returns
returns c = simp (c.number_at.ensures, le-leb _ _ c.if-t-lt-TARGET_WIDTH.false)
