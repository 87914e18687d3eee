use Rattle.places.specs.Offsets.{At}
use Rattle.sequences.specs.Targets.{content_marks, of_order, head_number}
use Rattle.sequences.proofs.FillLaws.{Filled}
use Rattle.xliff.specs.Encode.{Record}
use lib.ListN.{length, take}
use mathlib.Core.List.{List, ◌++◌}
use Prim.Native.Nat.{◌-◌, ◌+◌}
use Rattle.sequences.proofs.target_markers.Given as goal

abbrev pub invariant-loop-at : goal.invariant-loop-at
invariant-loop-at l =
    (rs : List Record)
    × At l.t l.at rs
    × Filled l.out l.m (content_marks l.at rs) (take l.n l.initial.out ++ of_order l.q (head_number l.t l.i))
    (length (of_order l.q (head_number l.t l.i)) + l.n) (length l.initial.out)

abbrev pub decreases-loop-at : goal.decreases-loop-at
decreases-loop-at l = length l.t - l.at
