use mathlib.Core.List.{List}
use Prim.Native.Nat.{◌≤◌, ◌<◌, ◌-◌}
use lib.ListN.{length}
use Rattle.xliff.specs.Encode.{Record}
use Rattle.walk.specs.Kept.{Of, InContent}
use Rattle.walk.proofs.RecordLaws.{Upto}
use Rattle.joined_content.proofs.JoinLaws.{Behind}
use Rattle.joined_content.proofs.last_of.Given as goal

abbrev pub invariant-loop-next : goal.invariant-loop-next
invariant-loop-next l =
    (l.at < length l.c)
    × (l.next ≤ length l.c)
    × Behind l.c l.at l.next
    × ((rs : List Record) → Of l.c rs → Upto InContent l.c rs l.at)

abbrev pub decreases-loop-next : goal.decreases-loop-next
decreases-loop-next l = length l.c - l.next
