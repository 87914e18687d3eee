use borrow.Author.Tests.{lt-ltb, le-ltb}
use Rattle.walk.proofs.pass_text.Goals as goal

-- the item stands in the text
pub returns-then-p-n : goal.returns-then-p-n
returns-then-p-n c = simp (lt-ltb _ _ c.if-p-n.true)

-- the text is passed over
pub returns-else-p-n : goal.returns-else-p-n
returns-else-p-n c = simp (le-ltb _ _ c.if-p-n.false)
