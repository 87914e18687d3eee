use Rattle.xliff.specs.Good.{part_heads}
use Rattle.places.specs.Offsets.{At}
use Rattle.xliff.specs.Encode.{Record, unit_records}
use Rattle.xliff.specs.Parse.{unit}
use lib.ListN.{length}
use mathlib.Core.Path.{◌≡◌}
use mathlib.Core.List.{List}
use Prim.Native.Nat.{◌-◌, ◌+◌}
use Rattle.orders.proofs.count_parts.Given as goal

abbrev pub invariant-loop-at : goal.invariant-loop-at
invariant-loop-at l = (rs : List Record) × At l.t l.at rs × (l.n + part_heads rs ≡ part_heads (unit_records (unit l.t)))

abbrev pub decreases-loop-at : goal.decreases-loop-at
decreases-loop-at l = length l.t - l.at
