use Rattle.xml_values.proofs.ValueLaws.{ValueSoFar}
use lib.ListN.{length}
use Prim.Native.Nat.{◌-◌}
use Rattle.xml_values.proofs.value_end.Given as goal

abbrev pub invariant-loop-at : goal.invariant-loop-at
invariant-loop-at l = ValueSoFar l.text l.from l.quote l.at

abbrev pub decreases-loop-at : goal.decreases-loop-at
decreases-loop-at l = length l.text - l.at
