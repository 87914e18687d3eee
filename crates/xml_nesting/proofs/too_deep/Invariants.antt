use Prim.Native.Nat.{◌≤◌, ◌-◌}
use mathlib.Core.Path.{◌≡◌}
use mathlib.Core.List.{List}
use lib.ListN.{length}
use Rattle.xliff.specs.Encode.{Record}
use Rattle.xliff.specs.Parse.{unit}
use Rattle.places.specs.Offsets.{At}
use Rattle.xml.specs.Elements.{most_depth}
use Rattle.xml.specs.Write.{too_deep}
use Rattle.xml_nesting.specs.Nesting.{records_deep}
use Rattle.xml_nesting.proofs.too_deep.Given as goal

-- what is left of the records tells whether the unit is too deep
abbrev pub invariant-loop-at : goal.invariant-loop-at
invariant-loop-at l =
    (rs : List Record) × At l.t l.at rs × (l.depth ≤ most_depth) × (records_deep l.depth rs ≡ too_deep (unit l.t))

abbrev pub decreases-loop-at : goal.decreases-loop-at
decreases-loop-at l =
    length l.t - l.at
