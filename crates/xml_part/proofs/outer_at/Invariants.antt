use Prim.Native.Nat.{◌-◌}
use lib.ListN.{length}
use Rattle.xml_part.proofs.OuterSteps.{Passing}
use Rattle.xml_part.proofs.outer_at.Given as goal

abbrev pub invariant-loop-name : goal.invariant-loop-name
invariant-loop-name l = Passing l.text l.start l.at

abbrev pub decreases-loop-name : goal.decreases-loop-name
decreases-loop-name l = length l.text - l.at
