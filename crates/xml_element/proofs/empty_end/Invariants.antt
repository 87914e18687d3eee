use lib.ListN.{length}
use Prim.Native.Nat.{◌-◌}
use Rattle.xml_element.proofs.EmptyLaws.{Passed}
use Rattle.xml_element.proofs.empty_end.Given as goal

abbrev pub invariant-loop-inner : goal.invariant-loop-inner
invariant-loop-inner l = Passed l.text l.start l.at

abbrev pub decreases-loop-inner : goal.decreases-loop-inner
decreases-loop-inner l = length l.text - l.at
