use Rattle.sequences.proofs.GlanceLaws.{source_marks}
use Rattle.sequences.specs.Marks.{offsets}
use Rattle.sequences.proofs.FillLaws.{Filled}
use Rattle.places.specs.Offsets.{At}
use Rattle.xliff.specs.Encode.{Record}
use Rattle.xliff.specs.Parse.{most_records}
use lib.ListN.{length}
use mathlib.Core.List.{List}
use mathlib.Core.Bool.{true}
use Prim.Native.Nat.{◌-◌}
use Rattle.sequences.proofs.sources.Given as goal

abbrev pub invariant-loop-at : goal.invariant-loop-at
invariant-loop-at l =
    (rs : List Record)
    × At l.t l.at rs
    × Filled l.out l.m (source_marks l.inside l.at rs) (offsets true 0 l.t) (length (offsets true 0 l.t)) most_records

abbrev pub decreases-loop-at : goal.decreases-loop-at
decreases-loop-at l = length l.t - l.at
