use Prim.Native.Nat.{◌≤◌, ◌-◌}
use mathlib.Core.List.{List}
use mathlib.Core.Path.{◌≡◌}
use lib.ListN.{length}
use Rattle.xliff.specs.Unit.{Part}
use Rattle.parts.specs.Parts.{PartsIn, moved}
use Rattle.parts.proofs.LoopLaws.{PartsWritten}
use Rattle.parts.proofs.put_parts.Given as goal

abbrev pub invariant-loop-at : goal.invariant-loop-at
invariant-loop-at l =
    (l.at ≤ length l.t)
    × (length l.out ≡ length l.initial.out)
    × ((ps : List Part) → PartsIn l.t ps → PartsWritten l.t (moved l.up l.q) ps l.initial.out l.at l.out)

abbrev pub decreases-loop-at : goal.decreases-loop-at
decreases-loop-at l = length l.t - l.at
