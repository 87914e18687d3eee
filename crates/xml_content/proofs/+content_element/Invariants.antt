-- The cycle of calls of a content and the elements in it. A content at a depth calls for elements at that depth, and an
-- element calls for content at one less: the measure of `content` is twice the depth and one, that of `element` twice.
use Prim.Native.Nat.{◌+◌, ◌-◌}
use lib.ListN.{length}
use Rattle.xml_content.proofs.LoopLaws.{SoFar}
use Rattle.xml_content.proofs.+content_element.Given as goal

abbrev pub decreases-content : goal.decreases-content
decreases-content l = l.depth + l.depth + 1

abbrev pub decreases-element : goal.decreases-element
decreases-element l = l.depth + l.depth

abbrev pub invariant-content-loop-next : goal.invariant-content-loop-next
invariant-content-loop-next l = SoFar l.text l.start l.depth l.initial.builder l.at l.builder

abbrev pub decreases-content-loop-next : goal.decreases-content-loop-next
decreases-content-loop-next l = length l.text - l.at
