use Rattle.part_refusals.proofs.IdLaws.{has_record_id}
use Rattle.part_at.proofs.SearchLaws.{Searched}
use Rattle.xliff.specs.Split.{id_taken}
use Rattle.xliff.specs.Parse.{unit}
use lib.ListN.{length}
use Prim.Native.Nat.{◌-◌}
use Rattle.part_refusals.proofs.is_taken.Given as goal

abbrev pub invariant-loop-at : goal.invariant-loop-at
invariant-loop-at l = Searched l.t (has_record_id l.id) (id_taken (unit l.t).parts l.id) l.at

abbrev pub decreases-loop-at : goal.decreases-loop-at
decreases-loop-at l = length l.t - l.at
