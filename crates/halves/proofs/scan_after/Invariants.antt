use Rattle.halves.specs.Nearest.{half_after, others}
use Rattle.id_links.specs.Nearest.{next}
use lib.ListN.{length}
use mathlib.Core.Path.{◌≡◌}
use Prim.Native.Nat.{◌-◌, ◌≤◌, ◌<◌}
use Rattle.halves.proofs.scan_after.Given as goal

abbrev pub invariant-loop-j : goal.invariant-loop-j
invariant-loop-j l = (l.i < l.j) × (l.j ≤ length l.keys) × (half_after l.keys l.i ≡ next (others l.keys l.i) l.j (length l.keys - l.j))
