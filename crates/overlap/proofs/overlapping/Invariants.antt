use Rattle.halves.specs.Nearest.{earlier, marker_at}
use Rattle.places.specs.Markers.{placed_at}
use Rattle.xliff.specs.Rules.{bad_9}
use Rattle.xliff.specs.Sequences.{blamed}
use Rattle.answers.specs.Answers.{toward}
use lib.ListN.{length, drop}
use mathlib.Core.Path.{◌≡◌}
use mathlib.Core.List.{[]}
use Prim.Native.Nat.{◌≤◌}
use Rattle.overlap.proofs.overlapping.Given as goal

abbrev pub invariant-loop-i : goal.invariant-loop-i
invariant-loop-i l =
    (l.i ≤ length l.h.sequence.markers.now)
    × (toward 9 l.initial.best (blamed bad_9 [] (placed_at l.t l.h.sequence.markers.now))
    ≡ toward 9 l.best (blamed bad_9 (earlier (marker_at l.t l.h.sequence.markers.now) l.i) (placed_at l.t (drop l.i l.h.sequence.markers.now))))
