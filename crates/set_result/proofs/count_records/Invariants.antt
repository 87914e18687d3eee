use Prim.Native.Nat.{◌-◌, ◌≤◌}
use mathlib.Core.List.{List}
use lib.ListN.{length}
use Rattle.xliff.specs.Encode.{Record}
use Rattle.walk.specs.Kept.{Of}
use Rattle.set_result.proofs.CountLaws.{Passed}
use Rattle.set_result.proofs.count_records.Given as goal

abbrev pub invariant-loop-at : goal.invariant-loop-at
invariant-loop-at l = (l.at ≤ length l.c) × (l.n ≤ l.at) × ((rs : List Record) → Of l.c rs → Passed l.c rs l.at l.n)

abbrev pub decreases-loop-at : goal.decreases-loop-at
decreases-loop-at l = length l.c - l.at
