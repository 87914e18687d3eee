use mathlib.Core.List.{List}
use mathlib.Core.Path.{◌≡◌}
use mathlib.Core.Bool.{false}
use Prim.Native.Nat.{◌≤◌, ◌-◌}
use lib.ListN.{length}
use Rattle.xliff.specs.Encode.{Record}
use Rattle.xliff.proofs.lists.Sum.{one}
use Rattle.walk.specs.Kept.{Rest}
use Rattle.codes.specs.Chains.{goes_on}
use Rattle.codes.proofs.CountLaws.{Counted}
use Rattle.codes.proofs.chains.chain_count.Given as goal

abbrev pub invariant-loop-at : goal.invariant-loop-at
invariant-loop-at l =
    (l.at ≤ length l.c)
    × (l.count ≤ l.at)
    × (goes_on l.c l.at false ≡ false)
    × ((rs : List Record) → Rest l.c 0 rs → Counted one l.c rs l.count l.at)

abbrev pub decreases-loop-at : goal.decreases-loop-at
decreases-loop-at l = length l.c - l.at
