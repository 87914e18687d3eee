use Rattle.parts.proofs.OrderLaws.{moved_below, moved_up, moved_down}
use Rattle.parts.proofs.moved_order.Goals as goal

-- return n
pub returns-then-n-q : goal.returns-then-n-q
returns-then-n-q c =
    let args = c.args in
    moved_below args.up args.q args.n c.if-n-q.true

-- return n + 1
pub returns-then-up : goal.returns-then-up
returns-then-up c =
    let args = c.args in
    moved_up args.up args.q args.n c.if-up.true c.if-n-q.false

-- n - 1
pub returns : goal.returns
returns c =
    let args = c.args in
    moved_down args.up args.q args.n c.if-up.false c.if-n-q.false
