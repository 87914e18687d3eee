use Rattle.letters.specs.Eight.{bad_8}
use Rattle.halves.specs.Nearest.{earlier, marker_at}
use Rattle.places.specs.Markers.{placed_at}
use Rattle.xliff.specs.Rules.{is_F}
use Rattle.xliff.specs.Sequences.{blamed}
use Rattle.xliff.specs.Bytes.{any}
use Rattle.answers.specs.Answers.{toward}
use lib.ListN.{length, drop}
use mathlib.Core.Path.{◌≡◌}
use mathlib.Core.List.{[]}
use Prim.Native.Nat.{◌≤◌}
use Rattle.letters.proofs.eight_in.Given as goal

abbrev pub invariant-loop-i : goal.invariant-loop-i
invariant-loop-i l =
    (l.i ≤ length l.s.markers.now)
    × (l.led ≡ any is_F (earlier (marker_at l.t l.s.markers.now) l.i))
    × (toward 8 l.initial.best (blamed (bad_8 l.source) [] (placed_at l.t l.s.markers.now))
    ≡ toward 8 l.best (blamed (bad_8 l.source) (earlier (marker_at l.t l.s.markers.now) l.i) (placed_at l.t (drop l.i l.s.markers.now))))
