use Rattle.text.specs.Utf8.{two_of}
use borrow.Author.Tests.{lt-leb, le-leb}
use borrow.Author.Rules.{rules}
use Rattle.text.proofs.two_of.Goals as goal

-- return None
pub returns-then-t-lt2 : goal.returns-then-t-lt2
unfolding two_of
returns-then-t-lt2 c = simp (lt-leb _ _ c.if-t-lt2.true)

-- point_if((128 <= b) & (b <= 191), u32::from(t[0]) % 32 * 64 + u32::from(b) % 64, 2)
pub returns : goal.returns
unfolding two_of
returns c =
    let if1 = c.if-t-lt2 in
    simp (
      c.point_if.ensures,
      c.from.ensures,
      c.from-2.ensures,
      le-leb _ _ if1.false,
    )

pub point_if-requires : goal.point_if-requires
unfolding two_of
point_if-requires c = search rules
