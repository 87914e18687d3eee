use Prim.Native.Nat.{ℕ}
use lib.Dec.{eqb}
use mathlib.Core.Bool.{◌&&◌}
use mathlib.Core.Path.{ap₂}
use Rattle.overlap.proofs.is_pair_start.Goals as goal

-- (keys::class_of(key) == 2) & (keys::half_of(key) == 1)
pub returns : goal.returns
returns c = ap₂ (λ (x h : ℕ). eqb x 2 && eqb h 1) c.class_of.ensures c.half_of.ensures
