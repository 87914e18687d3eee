use Prim.Native.Nat.{◌≤◌, ◌-◌}
use lib.ListN.{length}
use Rattle.xliff.specs.Item.{Content}
use Rattle.xliff.specs.Encode.{content_records}
use Rattle.xliff.specs.SetTarget.{is_lost}
use Rattle.walk.specs.Kept.{Holds}
use Rattle.walk.proofs.WalkLaws.{Searched}
use Rattle.codes.proofs.kept.is_lost.Given as goal

abbrev pub invariant-loop-at : goal.invariant-loop-at
invariant-loop-at l =
    (l.at ≤ length l.old) × ((xs ys : Content) → Holds l.old xs → Holds l.new ys → Searched (is_lost ys) l.old (content_records xs) l.at)

abbrev pub decreases-loop-at : goal.decreases-loop-at
decreases-loop-at l = length l.old - l.at
