use Prim.Native.Nat.{◌≤◌, ◌-◌}
use mathlib.Core.List.{List}
use lib.ListN.{length}
use Rattle.xliff.specs.Encode.{Record}
use Rattle.places.specs.Offsets.{At}
use Rattle.xml_nesting.proofs.EndLaws.{Left}
use Rattle.xml_nesting.proofs.end_data.Given as goal

-- what is left of the records has the end that is looked for
abbrev pub invariant-loop-at : goal.invariant-loop-at
invariant-loop-at l =
    (l.unclosed ≤ l.at) × ((rs : List Record) → At l.t l.start rs → Left l.t l.at l.unclosed rs)

abbrev pub decreases-loop-at : goal.decreases-loop-at
decreases-loop-at l =
    length l.t - l.at
