use Rattle.table.specs.Records.{code_of}
use borrow.Author.Tests.{lt-leb, le-leb}
use Rattle.table.proofs.code_of.Goals as goal

-- it is cut
pub returns-then-t-lt-CODE_WIDTH : goal.returns-then-t-lt-CODE_WIDTH
unfolding code_of
returns-then-t-lt-CODE_WIDTH c = simp (lt-leb _ _ c.if-t-lt-CODE_WIDTH.true)

-- its fields, if they are good
pub returns : goal.returns
unfolding code_of
returns c =
    simp (c.then_some.ensures, c.fields_ok.ensures, c.read_fields-f.ensures, le-leb _ _ c.if-t-lt-CODE_WIDTH.false)
