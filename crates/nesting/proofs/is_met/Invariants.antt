use Rattle.nesting.proofs.ScanLaws.{Scan}
use Prim.Native.Nat.{◌-◌}
use Rattle.nesting.proofs.is_met.Given as goal

abbrev pub invariant-loop-j : goal.invariant-loop-j
invariant-loop-j l = Scan l.keys l.back l.i l.stack l.depth l.j

abbrev pub decreases-loop-j : goal.decreases-loop-j
decreases-loop-j l = l.n - l.j
