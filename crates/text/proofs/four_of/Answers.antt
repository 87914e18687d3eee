use Rattle.text.specs.Utf8.{four_of}
use borrow.Author.Tests.{lt-leb, le-leb}
use borrow.Author.Rules.{rules}
use Rattle.text.proofs.four_of.Goals as goal

-- return None
pub returns-then-t-lt4 : goal.returns-then-t-lt4
unfolding four_of
returns-then-t-lt4 c = simp (lt-leb _ _ c.if-t-lt4.true)

-- point_if(ok, c, 4)
pub returns : goal.returns
unfolding four_of
returns c =
    let if1 = c.if-t-lt4 in
    simp (
      c.point_if.ensures,
      c.from.ensures,
      c.from-2.ensures,
      c.from-3.ensures,
      c.from-4.ensures,
      le-leb _ _ if1.false,
    )

pub point_if-requires : goal.point_if-requires
unfolding four_of
point_if-requires c = search rules
