use Prim.Native.Nat.{◌-◌}
use lib.ListN.{length}
use Rattle.xml_names.specs.Names.{NameRead}
use Rattle.xml_names.proofs.name_end.Given as goal

abbrev pub invariant-loop-at : goal.invariant-loop-at
invariant-loop-at l = NameRead l.text l.from l.at

abbrev pub decreases-loop-at : goal.decreases-loop-at
decreases-loop-at l = length l.text - l.at
