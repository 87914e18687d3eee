use mathlib.Core.List.{List}
use mathlib.Core.Path.{◌≡◌}
use mathlib.Core.Bool.{false}
use Prim.Native.Nat.{◌≤◌, ◌-◌}
use lib.ListN.{length}
use Rattle.xliff.specs.Encode.{Record}
use Rattle.xliff.proofs.operations.ChainCounts.{uneven}
use Rattle.walk.specs.Kept.{Rest}
use Rattle.codes.specs.Chains.{chains_in, goes_on}
use Rattle.codes.proofs.CountLaws.{Looked}
use Rattle.codes.proofs.chains.uneven.Given as goal

abbrev pub invariant-loop-at : goal.invariant-loop-at
invariant-loop-at l =
    (l.at ≤ length l.c)
    × (goes_on l.c l.at false ≡ false)
    × ((rs qs : List Record) → Rest l.c 0 rs → Rest l.d 0 qs
    → Looked (uneven (chains_in rs) (chains_in qs)) l.c rs l.found l.at)

abbrev pub decreases-loop-at : goal.decreases-loop-at
decreases-loop-at l = length l.c - l.at
