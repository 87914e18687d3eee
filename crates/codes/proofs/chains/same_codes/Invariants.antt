use mathlib.Core.List.{List}
use Prim.Native.Nat.{◌≤◌, ◌-◌}
use lib.ListN.{length}
use Rattle.xliff.specs.Encode.{Record}
use Rattle.walk.specs.Kept.{Rest}
use Rattle.codes.proofs.MarkerChains.{Compared}
use Rattle.codes.proofs.chains.same_codes.Given as goal

abbrev pub invariant-loop-at : goal.invariant-loop-at
invariant-loop-at l =
    (l.i ≤ length l.c)
    × (l.j ≤ length l.d)
    × ((rs qs : List Record) → Rest l.c l.at rs → Rest l.d l.to qs → Compared l.whole l.c l.d rs qs l.i l.j)

abbrev pub decreases-loop-at : goal.decreases-loop-at
decreases-loop-at l = length l.c - l.i
