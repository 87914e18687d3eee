use Prim.Native.Nat.{◌≤◌, ◌-◌}
use mathlib.Core.List.{List}
use mathlib.Core.Path.{◌≡◌}
use lib.ListN.{length}
use Rattle.xliff.specs.Encode.{Record}
use Rattle.walk.specs.Kept.{Of, items, InContent}
use Rattle.cut.specs.Turned.{cut_record}
use Rattle.cut.proofs.LoopLaws.{Written}
use Rattle.cut.proofs.put_cut.Given as goal

abbrev pub invariant-loop-at : goal.invariant-loop-at
invariant-loop-at l =
    (l.at ≤ length l.a)
    × (length l.out ≡ length l.initial.out)
    × ((rs qs : List Record) → Of l.a rs → Of l.beyond qs → Written InContent (cut_record (items qs)) l.a rs l.initial.out l.at l.out)

abbrev pub decreases-loop-at : goal.decreases-loop-at
decreases-loop-at l = length l.a - l.at
