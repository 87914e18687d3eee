use Prim.Native.Nat.{◌-◌}
use lib.ListN.{length}
use Rattle.orders.proofs.OrderLaws.{Ordering}
use Rattle.orders.proofs.rule_5.Given as goal

abbrev pub invariant-loop-at : goal.invariant-loop-at
invariant-loop-at l = Ordering l.t l.n l.used l.at

abbrev pub decreases-loop-at : goal.decreases-loop-at
decreases-loop-at l = length l.t - l.at
