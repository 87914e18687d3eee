use Rattle.part_at.proofs.ContentLaws.{Walked}
use lib.ListN.{length}
use Prim.Native.Nat.{◌-◌}
use Rattle.part_at.proofs.content_end.Given as goal

abbrev pub invariant-loop-at : goal.invariant-loop-at
invariant-loop-at l = Walked l.t l.start l.at

abbrev pub decreases-loop-at : goal.decreases-loop-at
decreases-loop-at l = length l.t - l.at
