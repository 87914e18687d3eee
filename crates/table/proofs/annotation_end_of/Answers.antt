use Rattle.table.specs.Records.{annotation_end_of, sized}
use borrow.Author.Tests.{lt-leb, le-leb}
use borrow.Author.Rules.{rules}
use Rattle.table.proofs.annotation_end_of.Goals as goal

-- it is cut
pub returns-then-t-lt-ANNOTATION_END_WIDTH : goal.returns-then-t-lt-ANNOTATION_END_WIDTH
unfolding annotation_end_of sized
returns-then-t-lt-ANNOTATION_END_WIDTH c = simp (lt-leb _ _ c.if-t-lt-ANNOTATION_END_WIDTH.true)

-- its fields, and whether they are good
pub returns : goal.returns
unfolding annotation_end_of sized
returns c = simp (c.read_if.ensures, c.number_at-id.ensures, le-leb _ _ c.if-t-lt-ANNOTATION_END_WIDTH.false)

pub number_at-id-requires : goal.number_at-id-requires
unfolding annotation_end_of sized
number_at-id-requires c = search rules

pub read_if-requires : goal.read_if-requires
unfolding annotation_end_of sized
read_if-requires c = search rules
