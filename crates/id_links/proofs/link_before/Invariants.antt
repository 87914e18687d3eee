use Rattle.id_links.proofs.Chains.{LinkedUpTo}
use Rattle.id_links.proofs.link_before.Given as goal

abbrev pub invariant-loop-i : goal.invariant-loop-i
invariant-loop-i l = LinkedUpTo l.keys l.i l.links l.heads
