use Rattle.text.specs.Utf8.{three_of}
use borrow.Author.Tests.{lt-leb, le-leb}
use borrow.Author.Rules.{rules}
use Rattle.text.proofs.three_of.Goals as goal

-- return None
pub returns-then-t-lt3 : goal.returns-then-t-lt3
unfolding three_of
returns-then-t-lt3 c = simp (lt-leb _ _ c.if-t-lt3.true)

-- point_if(ok, c, 3)
pub returns : goal.returns
unfolding three_of
returns c =
    let if1 = c.if-t-lt3 in
    simp (
      c.point_if.ensures,
      c.from.ensures,
      c.from-2.ensures,
      c.from-3.ensures,
      le-leb _ _ if1.false,
    )

pub point_if-requires : goal.point_if-requires
unfolding three_of
point_if-requires c = search rules
