use Rattle.source_match.proofs.ChainLaws.{Following}
use Rattle.source_match.proofs.LinkedItems.matches_by.Given as goal

abbrev pub invariant-loop-j : goal.invariant-loop-j
invariant-loop-j l =
    Following l.self.t.now l.self.sequence.markers.now l.self.sequence.keys.now l.id l.x l.found l.j

abbrev pub decreases-loop-j : goal.decreases-loop-j
decreases-loop-j l = l.j
