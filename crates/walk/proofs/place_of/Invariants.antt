use mathlib.Core.List.{List}
use Prim.Native.Nat.{◌≤◌, ◌-◌}
use lib.ListN.{length}
use Rattle.xliff.specs.Encode.{Record}
use Rattle.walk.specs.Kept.{Of}
use Rattle.walk.proofs.PlaceLaws.{Along}
use Rattle.walk.proofs.place_of.Given as goal

abbrev pub invariant-loop-at : goal.invariant-loop-at
invariant-loop-at l = (l.at ≤ length l.c) × ((rs : List Record) → Of l.c rs → Along l.c l.k rs l.at l.left)

abbrev pub decreases-loop-at : goal.decreases-loop-at
decreases-loop-at l = length l.c - l.at
