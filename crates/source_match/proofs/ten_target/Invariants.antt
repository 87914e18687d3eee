use Prim.Native.Nat.{◌≤◌}
use mathlib.Core.List.{[]}
use mathlib.Core.Path.{◌≡◌}
use lib.ListN.{length, drop}
use Rattle.answers.specs.Answers.{toward}
use Rattle.xliff.specs.Sequences.{blamed}
use Rattle.xliff.specs.Rules.{bad_10_target}
use Rattle.views.specs.Views.{items_of_markers}
use Rattle.places.specs.Markers.{placed_at}
use Rattle.halves.specs.Nearest.{earlier, marker_at}
use Rattle.source_match.proofs.ten_target.Given as goal

abbrev pub invariant-loop-i : goal.invariant-loop-i
invariant-loop-i l =
    (l.i ≤ length l.s.markers.now)
    × (toward 10 l.initial.best (blamed (bad_10_target (items_of_markers l.source.t.now l.source.sequence.markers.now)) [] (placed_at l.t l.s.markers.now))
    ≡ toward 10 l.best
    (blamed (bad_10_target (items_of_markers l.source.t.now l.source.sequence.markers.now)) (earlier (marker_at l.t l.s.markers.now) l.i) (placed_at l.t (drop l.i l.s.markers.now))))
