use Rattle.table.specs.Records.{annotation_start_of, sized}
use borrow.Author.Tests.{lt-leb, le-leb}
use borrow.Author.Rules.{rules}
use Rattle.table.proofs.annotation_start_of.Goals as goal

-- it is cut
pub returns-then-t-lt-ANNOTATION_START_WIDTH : goal.returns-then-t-lt-ANNOTATION_START_WIDTH
unfolding annotation_start_of sized
returns-then-t-lt-ANNOTATION_START_WIDTH c = simp (lt-leb _ _ c.if-t-lt-ANNOTATION_START_WIDTH.true)

-- its fields, and whether they are good
pub returns : goal.returns
unfolding annotation_start_of sized
returns c =
    let if1 = c.if-t-lt-ANNOTATION_START_WIDTH in
    let number_at = c.number_at-id in
    simp (c.read_if.ensures, c.yes_no_none.ensures, number_at.ensures, le-leb _ _ if1.false)

pub number_at-id-requires : goal.number_at-id-requires
unfolding annotation_start_of sized
number_at-id-requires c = search rules

pub yes_no_none-requires : goal.yes_no_none-requires
unfolding annotation_start_of sized
yes_no_none-requires c = search rules

pub read_if-requires : goal.read_if-requires
unfolding annotation_start_of sized
read_if-requires c = search rules
