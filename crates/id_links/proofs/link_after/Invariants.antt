use Rattle.id_links.proofs.After.{LinkedDownTo}
use Rattle.id_links.proofs.link_after.Given as goal

abbrev pub invariant-loop-i : goal.invariant-loop-i
invariant-loop-i l = LinkedDownTo l.keys l.i l.links l.heads
