use borrow.Author.Tests.{lt-leb, le-leb}
use Rattle.table.specs.Records.{unit_of, sized}
use Rattle.table.proofs.unit_of.Goals as goal

-- it is cut
pub returns-then-t-lt-UNIT_WIDTH : goal.returns-then-t-lt-UNIT_WIDTH
unfolding unit_of sized
returns-then-t-lt-UNIT_WIDTH c = simp (lt-leb _ _ c.if-t-lt-UNIT_WIDTH.true)

-- the fields, and whether they are good
pub returns : goal.returns
unfolding unit_of sized
returns c =
    let if1 = c.if-t-lt-UNIT_WIDTH in
    simp (c.read_if.ensures, c.yes_no.ensures, c.opening_fields-f.ensures, le-leb _ _ if1.false)
