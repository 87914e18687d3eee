use Rattle.places.specs.Offsets.{At}
use Rattle.xliff.specs.Encode.{Record, unit_records}
use Rattle.xliff.specs.Parse.{unit}
use Prim.Native.Nat.{◌+◌, ◌-◌}
use lib.ListN.{length}
use mathlib.Core.List.{List}
use mathlib.Core.Path.{◌≡◌}
use Rattle.part_at.proofs.count_records.Given as goal

abbrev pub invariant-loop-at : goal.invariant-loop-at
invariant-loop-at l = (rs : List Record) × At l.t l.at rs × (l.n + length rs ≡ length (unit_records (unit l.t)))

abbrev pub decreases-loop-at : goal.decreases-loop-at
decreases-loop-at l = length l.t - l.at
