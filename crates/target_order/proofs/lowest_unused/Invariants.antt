use Prim.Native.Nat.{◌+◌, ◌-◌}
use mathlib.Core.Path.{◌≡◌}
use Rattle.xliff.specs.Unit.{orders}
use Rattle.xliff.specs.Parse.{unit}
use Rattle.xliff.specs.SetTarget as set
use Rattle.target_order.proofs.lowest_unused.Given as goal

-- all below q are used
abbrev pub invariant-loop-q : goal.invariant-loop-q
invariant-loop-q l =
    set.lowest_unused 1 l.n (orders (unit l.t).parts) ≡ set.lowest_unused l.q (l.n + 1 - l.q) (orders (unit l.t).parts)
