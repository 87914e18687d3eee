use borrow.Author.Tests.{lt-leb, le-leb}
use Rattle.glance.proofs.text_glance.Goals as goal

-- it is cut
pub returns-then-t-lt-TEXT_WIDTH : goal.returns-then-t-lt-TEXT_WIDTH
returns-then-t-lt-TEXT_WIDTH c = simp (c.item_glance.ensures, lt-leb _ _ c.if-t-lt-TEXT_WIDTH.true)

-- its width
pub returns : goal.returns
returns c =
    let if1 = c.if-t-lt-TEXT_WIDTH in
    simp (
      c.item_glance-2.ensures,
      c.wide.ensures.0,
      c.number_at-n.ensures,
      le-leb _ _ if1.false,
    )
