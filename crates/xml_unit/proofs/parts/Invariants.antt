use Prim.Native.Nat.{◌-◌}
use lib.ListN.{length}
use Rattle.xml_unit.proofs.UnitLaws.{PartsRead}
use Rattle.xml_unit.proofs.parts.Given as goal

abbrev pub invariant-loop-tag : goal.invariant-loop-tag
invariant-loop-tag l = PartsRead l.text l.start l.initial.builder l.at l.builder l.count

abbrev pub decreases-loop-tag : goal.decreases-loop-tag
decreases-loop-tag l = length l.text - l.at
