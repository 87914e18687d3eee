use Prim.Native.Nat.{◌-◌}
use lib.ListN.{length}
use Rattle.xml_writer.proofs.LoopLaws.{Told}
use Rattle.xml_writer.proofs.put_unit.Given as goal

-- the records so far are written
abbrev pub invariant-loop-at : goal.invariant-loop-at
invariant-loop-at l =
    Told l.t l.initial.draft l.at l.within l.draft

abbrev pub decreases-loop-at : goal.decreases-loop-at
decreases-loop-at l =
    length l.t - l.at
