use Rattle.id_links.proofs.Search.{Searched}
use Rattle.id_links.specs.Links.{group}
use Rattle.ids.specs.Keys.{clash_test}
use Rattle.ids.proofs.MetIds.clashes.Given as goal

abbrev pub invariant-loop-j : goal.invariant-loop-j
invariant-loop-j l = Searched (clash_test l.k) l.keys (group l.k) l.j

abbrev pub decreases-loop-j : goal.decreases-loop-j
decreases-loop-j l = l.j
