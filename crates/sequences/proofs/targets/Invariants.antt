use Rattle.sequences.proofs.FillLaws.{Filled}
use Rattle.places.specs.Markers.{target_offsets}
use lib.ListN.{length}
use Prim.Native.Nat.{◌≤◌, ◌-◌}
use Rattle.xliff.specs.Parse.{most_records}
use Rattle.sequences.proofs.targets.Given as goal

abbrev pub invariant-loop-q : goal.invariant-loop-q
invariant-loop-q l =
    (l.q ≤ l.parts)
    × Filled l.out l.n (target_offsets l.t l.q (l.parts - l.q)) (target_offsets l.t 0 l.parts) (length (target_offsets l.t 0 l.parts))
    most_records
