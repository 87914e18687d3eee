use borrow.Author.Tests.{lt-leb, le-leb}
use Rattle.xliff.specs.Bytes.{four_at}
use Rattle.table.specs.Records.{character_of, sized}
use Rattle.table.proofs.character_of.Goals as goal

-- it is cut
pub returns-then-t-lt-CHARACTER_WIDTH : goal.returns-then-t-lt-CHARACTER_WIDTH
unfolding character_of sized
returns-then-t-lt-CHARACTER_WIDTH c = simp (lt-leb _ _ c.if-t-lt-CHARACTER_WIDTH.true)

-- the code point, of four bytes
pub returns : goal.returns
unfolding character_of sized four_at
returns c =
    let if1 = c.if-t-lt-CHARACTER_WIDTH in
    let high = c.number_at in
    simp (
      le-leb _ _ if1.false,
      ← high.ensures,
      ← c.number_at-2.ensures,
      ← c.from-high.ensures,
      ← c.from-low.ensures,
    )
