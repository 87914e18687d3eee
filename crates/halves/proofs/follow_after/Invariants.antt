use Rattle.halves.proofs.Follow.{FollowedAfter}
use Prim.Native.Nat.{◌-◌}
use lib.ListN.{length}
use Rattle.halves.proofs.follow_after.Given as goal

abbrev pub invariant-loop-j : goal.invariant-loop-j
invariant-loop-j l = FollowedAfter l.keys l.i l.j

abbrev pub decreases-loop-j : goal.decreases-loop-j
decreases-loop-j l = length l.keys - l.j
