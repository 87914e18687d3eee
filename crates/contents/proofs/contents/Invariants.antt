use Prim.Native.Nat.{◌-◌}
use lib.ListN.{length}
use Rattle.contents.proofs.WalkLaws.{Walk}
use Rattle.contents.proofs.contents.Given as goal

abbrev pub invariant-loop-at : goal.invariant-loop-at
invariant-loop-at l = Walk l.t l.targets l.inside l.out l.at l.m

abbrev pub decreases-loop-at : goal.decreases-loop-at
decreases-loop-at l = length l.t - l.at
