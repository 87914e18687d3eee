use Rattle.text.specs.Utf8.{char_of}
use borrow.Author.Tests.{lt-leb, le-leb, lt-ltb, le-ltb}
use borrow.Author.Rules.{rules}
use Rattle.text.proofs.char_of.Goals as goal

-- return None
pub returns-then-t-lt1 : goal.returns-then-t-lt1
unfolding char_of
returns-then-t-lt1 c = simp (lt-leb _ _ c.if-t-lt1.true)

-- return point_of(u32::from(a), 1)
pub returns-then-a-lt128 : goal.returns-then-a-lt128
unfolding char_of
returns-then-a-lt128 c =
    let if1 = c.if-t-lt1 in
    simp (
      c.point_of.ensures,
      c.from.ensures,
      lt-ltb _ _ c.if-a-lt128.true,
      le-leb _ _ if1.false,
    )

-- return two_of(t)
pub returns-then-a : goal.returns-then-a
unfolding char_of
returns-then-a c =
    let if1 = c.if-t-lt1 in
    simp
    (c.two_of.ensures, c.if-a.true, le-ltb _ _ c.if-a-lt128.false, le-leb _ _ if1.false)

-- return three_of(t)
pub returns-then-a-2 : goal.returns-then-a-2
unfolding char_of
returns-then-a-2 c =
    let if1 = c.if-t-lt1 in
    let if2 = c.if-a-lt128 in
    simp (
      c.three_of.ensures,
      c.if-a-2.true,
      c.if-a.false,
      le-ltb _ _ if2.false,
      le-leb _ _ if1.false,
    )

-- return four_of(t)
pub returns-then-a-3 : goal.returns-then-a-3
unfolding char_of
returns-then-a-3 c =
    let if1 = c.if-t-lt1 in
    let if2 = c.if-a-lt128 in
    let if3 = c.if-a in
    simp (
      c.four_of.ensures,
      c.if-a-3.true,
      c.if-a-2.false,
      if3.false,
      le-ltb _ _ if2.false,
      le-leb _ _ if1.false,
    )

-- None
pub returns : goal.returns
unfolding char_of
returns c =
    let if1 = c.if-t-lt1 in
    let if2 = c.if-a-lt128 in
    simp (
      c.if-a-3.false,
      c.if-a-2.false,
      c.if-a.false,
      le-ltb _ _ if2.false,
      le-leb _ _ if1.false,
    )

pub point_of-requires : goal.point_of-requires
unfolding char_of
point_of-requires c = search rules

pub two_of-requires : goal.two_of-requires
unfolding char_of
two_of-requires c = search rules

pub three_of-requires : goal.three_of-requires
unfolding char_of
three_of-requires c = search rules

pub four_of-requires : goal.four_of-requires
unfolding char_of
four_of-requires c = search rules
