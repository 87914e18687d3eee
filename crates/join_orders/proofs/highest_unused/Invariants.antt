use Rattle.xliff.specs.Join as join
use Rattle.xliff.specs.Parse.{unit}
use Rattle.xliff.specs.Unit.{orders}
use Prim.Native.Nat.{◌-◌}
use mathlib.Core.Path.{◌≡◌}
use Rattle.join_orders.proofs.highest_unused.Given as goal

-- so many values from the highest on are used
abbrev pub invariant-loop-passed : goal.invariant-loop-passed
invariant-loop-passed l = join.highest_unused l.n (orders (unit l.t).parts) ≡ join.highest_unused (l.n - l.passed) (orders (unit l.t).parts)
