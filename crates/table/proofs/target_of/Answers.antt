use borrow.Author.Tests.{lt-leb, le-leb}
use Rattle.table.specs.Records.{target_of, sized}
use Rattle.table.proofs.target_of.Goals as goal

-- it is cut
pub returns-then-t-lt-TARGET_WIDTH : goal.returns-then-t-lt-TARGET_WIDTH
unfolding target_of sized
returns-then-t-lt-TARGET_WIDTH c = simp (lt-leb _ _ c.if-t-lt-TARGET_WIDTH.true)

-- the number behind the mark
pub returns : goal.returns
unfolding target_of sized
returns c = simp (c.number_at.ensures, le-leb _ _ c.if-t-lt-TARGET_WIDTH.false)
