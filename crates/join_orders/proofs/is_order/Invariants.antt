use Rattle.join_orders.proofs.FallLaws.{Sets}
use Rattle.part_at.proofs.SearchLaws.{Searched}
use Rattle.xliff.specs.Parse.{unit}
use Rattle.xliff.specs.Unit.{orders}
use Rattle.xliff.specs.Bytes.{among}
use lib.ListN.{length}
use Prim.Native.Nat.{◌-◌}
use Rattle.join_orders.proofs.is_order.Given as goal

abbrev pub invariant-loop-at : goal.invariant-loop-at
invariant-loop-at l = Searched l.t (Sets l.q) (among l.q (orders (unit l.t).parts)) l.at

abbrev pub decreases-loop-at : goal.decreases-loop-at
decreases-loop-at l = length l.t - l.at
