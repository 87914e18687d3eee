use lib.ListN.{length, drop}
use Prim.Native.Nat.{◌≤◌, ◌<◌}
use mathlib.Core.Path.{◌≡◌}
use Rattle.xliff.specs.Desk.{digits as spell-digits, decimal}
use Rattle.lines.proofs.LineLaws.{ten}
use Rattle.lines.proofs.put_decimal.Given as goal

abbrev pub invariant-loop-m : goal.invariant-loop-m
invariant-loop-m l =
    (l.k ≤ 20) × (1 ≤ l.k) × (l.m < ten l.k) × (length l.digits ≡ 20) × (decimal l.n ≡ spell-digits l.k l.m (drop l.k l.digits))

abbrev pub decreases-loop-m : goal.decreases-loop-m
decreases-loop-m l = l.m
