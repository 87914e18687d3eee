use mathlib.Core.Path.{refl}
use mathlib.Core.Bool.{false}
use Rattle.parts.proofs.OrderLaws.{moved_below, moved_down}
use Rattle.join_result.proofs.lowered.Goals as goal

-- return n
pub returns-then-n-q : goal.returns-then-n-q
returns-then-n-q c = moved_below false c.args.q c.args.n c.if-n-q.true

-- n - 1
pub returns : goal.returns
returns c = moved_down false c.args.q c.args.n refl c.if-n-q.false
