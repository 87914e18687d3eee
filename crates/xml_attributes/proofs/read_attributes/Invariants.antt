use Rattle.xml_attributes.proofs.TagLaws.{TagSoFar}
use Prim.Native.Nat.{◌-◌}
use lib.ListN.{length}
use Rattle.xml_attributes.proofs.read_attributes.Given as goal

abbrev pub invariant-loop-a : goal.invariant-loop-a
invariant-loop-a l = TagSoFar l.text l.start l.initial.slots l.slots l.at l.count l.fine

abbrev pub decreases-loop-a : goal.decreases-loop-a
decreases-loop-a l = length l.text - l.at
