use borrow.Author.Tests.{lt-leb, le-leb}
use Rattle.table.specs.Records.{text_of}
use Rattle.table.proofs.text_of.Goals as goal

-- it is cut
pub returns-then-t-lt-TEXT_WIDTH : goal.returns-then-t-lt-TEXT_WIDTH
unfolding text_of
returns-then-t-lt-TEXT_WIDTH c = simp (lt-leb _ _ c.if-t-lt-TEXT_WIDTH.true)

-- its characters are cut
pub returns-then-t-n : goal.returns-then-t-n
unfolding text_of
returns-then-t-n c =
    simp (
      le-leb _ _ c.if-t-lt-TEXT_WIDTH.false,
      ← c.number_at.ensures,
      ← c.wide-n.ensures.0,
      lt-leb _ _ c.if-t-n.true,
    )

-- they are not looked at
pub returns-then-known : goal.returns-then-known
unfolding text_of
returns-then-known c =
    let if1 = c.if-t-lt-TEXT_WIDTH in
    let number_at = c.number_at in
    simp (
      le-leb _ _ if1.false,
      ← number_at.ensures,
      ← c.wide-n.ensures.0,
      le-leb _ _ c.if-t-n.false,
      c.if-known.true,
    )

-- they are XML's
pub returns-then-text_ok : goal.returns-then-text_ok
unfolding text_of
returns-then-text_ok c =
    let if2 = c.if-t-n in
    let n = c.wide-n in
    let number_at = c.number_at in
    let if1 = c.if-t-lt-TEXT_WIDTH in
    simp (
      le-leb _ _ if1.false,
      ← number_at.ensures,
      ← n.ensures.0,
      le-leb _ _ if2.false,
      c.if-known.false,
      ← c.text_ok.ensures,
      c.if-text_ok.true,
    )

-- they are not
pub returns-else-text_ok : goal.returns-else-text_ok
unfolding text_of
returns-else-text_ok c =
    let if2 = c.if-t-n in
    let n = c.wide-n in
    let number_at = c.number_at in
    let if1 = c.if-t-lt-TEXT_WIDTH in
    simp (
      le-leb _ _ if1.false,
      ← number_at.ensures,
      ← n.ensures.0,
      le-leb _ _ if2.false,
      c.if-known.false,
      ← c.text_ok.ensures,
      c.if-text_ok.false,
    )
