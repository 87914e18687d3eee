use Rattle.sequences.proofs.GlanceLaws.{head_places}
use Rattle.sequences.specs.Targets.{head_offsets}
use Rattle.sequences.proofs.FillLaws.{Filled}
use Rattle.places.specs.Offsets.{At}
use Rattle.xliff.specs.Encode.{Record}
use Rattle.xliff.specs.Parse.{most_parts}
use lib.ListN.{length}
use mathlib.Core.List.{List}
use Prim.Native.Nat.{◌-◌}
use Rattle.sequences.proofs.target_heads.Given as goal

abbrev pub invariant-loop-at : goal.invariant-loop-at
invariant-loop-at l =
    (rs : List Record)
    × At l.t l.at rs
    × Filled l.heads l.m (head_places l.at rs) (head_offsets l.t) (length (head_offsets l.t)) most_parts

abbrev pub decreases-loop-at : goal.decreases-loop-at
decreases-loop-at l = length l.t - l.at
