use mathlib.Core.Path.{◌≡◌}
use Prim.Native.Nat.{◌+◌, ◌-◌, ◌≤◌}
use lib.ListN.{drop}
use Rattle.text.specs.Points.{leads}
use Rattle.text.proofs.points.leads_in.Given as goal

abbrev pub invariant-loop-i : goal.invariant-loop-i
invariant-loop-i l = (l.i ≤ 64) × (l.n ≤ l.i) × (leads 64 (drop l.at l.t) ≡ l.n + leads (64 - l.i) (drop (l.at + l.i) l.t))

abbrev pub decreases-loop-i : goal.decreases-loop-i
decreases-loop-i l = 64 - l.i
