use Prim.Native.Nat.{◌+◌, ◌-◌, ◌≤◌}
use mathlib.Core.Path.{◌≡◌}
use lib.ListN.{length, drop}
use Rattle.xml_elements.proofs.CountLaws.{total}
use Rattle.xml_elements.proofs.has_only.Given as goal

-- those that are there so far, and the others
abbrev pub invariant-loop-slot : goal.invariant-loop-slot
invariant-loop-slot l =
    (l.slot-index ≤ length l.those) × (l.there ≤ l.slot-index)
    × (l.there + total l.filled.slots.now (drop l.slot-index l.those) ≡ total l.filled.slots.now l.those)

abbrev pub decreases-loop-slot : goal.decreases-loop-slot
decreases-loop-slot l = length l.those - l.slot-index
