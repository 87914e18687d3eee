use Rattle.xliff.proofs.lists.Tests.{or-true}
use borrow.Author.Tests.{lt-ltb, le-ltb}
use Rattle.orders.proofs.bad_order.Goals as goal

-- return true
pub returns-then-n-k : goal.returns-then-n-k
returns-then-n-k c = simp (lt-ltb _ _ c.if-n-k.true, or-true)

-- (k == 0) | used[k]
pub returns : goal.returns
returns c = simp (le-ltb _ _ c.if-n-k.false)
