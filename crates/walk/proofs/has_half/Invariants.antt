use Rattle.std.specs.Prelude.{Some}
use mathlib.Core.List.{List}
use Prim.Native.Nat.{◌≤◌, ◌-◌}
use lib.ListN.{length}
use Rattle.xliff.specs.Encode.{Record}
use Rattle.walk.specs.Kept.{Of}
use Rattle.walk.specs.Marks.{is_other}
use Rattle.walk.proofs.WalkLaws.{Searched}
use Rattle.walk.proofs.has_half.Given as goal

abbrev pub invariant-loop-at : goal.invariant-loop-at
invariant-loop-at l = (l.at ≤ length l.c) × ((rs : List Record) → Of l.c rs → Searched (is_other (Some l.kind) l.id) l.c rs l.at)

abbrev pub decreases-loop-at : goal.decreases-loop-at
decreases-loop-at l = length l.c - l.at
