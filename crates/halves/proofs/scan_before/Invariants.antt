use Rattle.halves.specs.Nearest.{half_before, others}
use Rattle.id_links.specs.Nearest.{previous}
use mathlib.Core.Path.{◌≡◌}
use Prim.Native.Nat.{◌≤◌}
use Rattle.halves.proofs.scan_before.Given as goal

abbrev pub invariant-loop-j : goal.invariant-loop-j
invariant-loop-j l = (l.j ≤ l.i) × (half_before l.keys l.i ≡ previous (others l.keys l.i) l.j)
