use Prim.Native.Nat.{◌-◌}
use lib.ListN.{length}
use Rattle.rewrite_marks.proofs.WalkLaws.{Written}
use Rattle.rewrite_marks.proofs.put_forms.Given as goal

abbrev pub invariant-loop-at : goal.invariant-loop-at
invariant-loop-at l = Written l.id l.p l.t l.source l.initial.out l.at l.inside l.out

abbrev pub decreases-loop-at : goal.decreases-loop-at
decreases-loop-at l = length l.t - l.at
