use Prim.Native.Nat.{◌-◌}
use lib.ListN.{length}
use Rattle.xml_tag.proofs.CommentLaws.{CommentSoFar}
use Rattle.xml_tag.proofs.comment_at.Given as goal

abbrev pub invariant-loop-at : goal.invariant-loop-at
invariant-loop-at l = CommentSoFar l.text l.from l.at

abbrev pub decreases-loop-at : goal.decreases-loop-at
decreases-loop-at l = length l.text - l.at
