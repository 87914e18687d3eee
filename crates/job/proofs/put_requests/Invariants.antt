use Rattle.xliff.specs.Parse.{most_bytes}
use Prim.Native.Nat.{◌-◌, ◌*◌, ◌≤◌}
use lib.ListN.{length}
use Rattle.job.proofs.StepLaws.{Printed}
use Rattle.job.proofs.put_requests.Given as goal

abbrev pub invariant-loop-at : goal.invariant-loop-at
invariant-loop-at l =
    (l.at ≤ length l.job) × (l.m ≤ most_bytes) × (l.k ≤ 12 * l.at) × Printed l.job l.initial.table l.n l.initial.out l.out l.table l.at l.m l.k

abbrev pub decreases-loop-at : goal.decreases-loop-at
decreases-loop-at l = length l.job - l.at
