use Prim.Native.Nat.{◌≤◌}
use mathlib.Core.Path.{◌≡◌}
use lib.ListN.{length}
use Rattle.sequences.specs.Targets.{Ordered}
use Rattle.sequences.proofs.head_orders.Given as goal

abbrev pub invariant-loop-i : goal.invariant-loop-i
invariant-loop-i l = (l.i ≤ length l.heads) × (length l.out ≡ length l.initial.out) × Ordered l.t l.i l.out
