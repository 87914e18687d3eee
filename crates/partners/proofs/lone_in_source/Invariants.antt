use Rattle.partners.specs.Partners.{lone_s_Key, blamed_keys}
use Rattle.answers.specs.Answers.{toward}
use lib.ListN.{take, drop, length}
use mathlib.Core.Path.{◌≡◌}
use mathlib.Core.List.{[], reverse}
use Prim.Native.Nat.{◌≤◌}
use Rattle.partners.proofs.lone_in_source.Given as goal

abbrev pub invariant-loop-i : goal.invariant-loop-i
invariant-loop-i l =
    (l.i ≤ length l.source.markers.now)
    × (toward 7 l.initial.best (blamed_keys lone_s_Key [] l.source.markers.now l.source.keys.now)
    ≡ toward 7 l.best (blamed_keys lone_s_Key (reverse (take l.i l.source.keys.now)) (drop l.i l.source.markers.now) (drop l.i l.source.keys.now)))
