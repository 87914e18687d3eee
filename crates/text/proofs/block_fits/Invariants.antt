use lib.ListN.{drop}
use mathlib.Core.Bool.{◌&&◌}
use mathlib.Core.Path.{◌≡◌}
use Prim.Native.Nat.{◌+◌, ◌-◌, ◌≤◌}
use Rattle.text.specs.Blocks.{pair_at, all_fit}
use Rattle.text.proofs.block_fits.Given as goal

abbrev pub invariant-loop-i : goal.invariant-loop-i
invariant-loop-i l =
    (l.i ≤ 16) × (all_fit pair_at 16 (drop l.at l.t) ≡ (l.ok && all_fit pair_at (16 - l.i) (drop (l.at + l.i) l.t)))

abbrev pub decreases-loop-i : goal.decreases-loop-i
decreases-loop-i l = 16 - l.i
