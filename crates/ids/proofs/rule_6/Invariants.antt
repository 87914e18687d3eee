use Prim.Native.Nat.{◌-◌}
use lib.ListN.{length}
use Rattle.ids.proofs.MeetingLaws.{Meeting}
use Rattle.ids.proofs.rule_6.Given as goal

abbrev pub invariant-loop-at : goal.invariant-loop-at
invariant-loop-at l = Meeting l.t l.ids.keys l.ids.count l.o l.at

abbrev pub decreases-loop-at : goal.decreases-loop-at
decreases-loop-at l = length l.t - l.at
