use Rattle.partners.specs.Partners.{lone_among_keys, blamed_keys}
use Rattle.answers.specs.Answers.{toward}
use lib.ListN.{take, drop, length}
use mathlib.Core.Path.{◌≡◌}
use mathlib.Core.List.{[], reverse}
use Prim.Native.Nat.{◌≤◌}
use Rattle.xliff.specs.Parse.{most_records}
use Rattle.partners.proofs.lone_in_target.Given as goal

abbrev pub invariant-loop-i : goal.invariant-loop-i
invariant-loop-i l =
    (l.i ≤ length l.target.markers.now)
    × (length l.stack ≡ most_records)
    × (toward 7 l.initial.best (blamed_keys (lone_among_keys l.bars) [] l.target.markers.now l.target.keys.now)
    ≡ toward 7 l.best (blamed_keys (lone_among_keys l.bars) (reverse (take l.i l.target.keys.now)) (drop l.i l.target.markers.now) (drop l.i l.target.keys.now)))
