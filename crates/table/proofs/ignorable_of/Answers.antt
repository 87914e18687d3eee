use borrow.Author.Tests.{lt-leb, le-leb}
use Rattle.table.specs.Records.{ignorable_of, sized}
use Rattle.table.proofs.ignorable_of.Goals as goal

-- it is cut
pub returns-then-t-lt-IGNORABLE_WIDTH : goal.returns-then-t-lt-IGNORABLE_WIDTH
unfolding ignorable_of sized
returns-then-t-lt-IGNORABLE_WIDTH c = simp (lt-leb _ _ c.if-t-lt-IGNORABLE_WIDTH.true)

-- the number behind the mark
pub returns : goal.returns
unfolding ignorable_of sized
returns c = simp (c.number_at.ensures, le-leb _ _ c.if-t-lt-IGNORABLE_WIDTH.false)
