use borrow.Author.Tests.{lt-leb, le-leb}
use Rattle.table.specs.Records.{segment_of, sized}
use Rattle.table.proofs.segment_of.Goals as goal

-- it is cut
pub returns-then-t-lt-SEGMENT_WIDTH : goal.returns-then-t-lt-SEGMENT_WIDTH
unfolding segment_of sized
returns-then-t-lt-SEGMENT_WIDTH c = simp (lt-leb _ _ c.if-t-lt-SEGMENT_WIDTH.true)

-- the fields, and whether they are good
pub returns : goal.returns
unfolding segment_of sized
returns c =
    let if1 = c.if-t-lt-SEGMENT_WIDTH in
    let fields = c.segment_fields-f in
    simp (
      c.read_if.ensures,
      c.state_letter.ensures,
      c.yes_no_none.ensures,
      fields.ensures,
      le-leb _ _ if1.false,
    )
