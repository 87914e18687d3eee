use Rattle.halves.proofs.Follow.{FollowedBefore}
use Rattle.halves.proofs.follow_before.Given as goal

abbrev pub invariant-loop-j : goal.invariant-loop-j
invariant-loop-j l = FollowedBefore l.keys l.i l.j

abbrev pub decreases-loop-j : goal.decreases-loop-j
decreases-loop-j l = l.j
