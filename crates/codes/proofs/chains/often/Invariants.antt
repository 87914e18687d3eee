use mathlib.Core.List.{List}
use mathlib.Core.Path.{◌≡◌}
use mathlib.Core.Bool.{false}
use Prim.Native.Nat.{◌+◌, ◌≤◌, ◌-◌}
use lib.ListN.{length}
use Rattle.xliff.specs.Encode.{Record}
use Rattle.walk.specs.Kept.{Rest}
use Rattle.codes.specs.Chains.{goes_on, chain_at}
use Rattle.xliff.proofs.operations.ChainCounts.{like}
use Rattle.codes.proofs.CountLaws.{Counted}
use Rattle.codes.proofs.chains.often.Given as goal

abbrev pub invariant-loop-to : goal.invariant-loop-to
invariant-loop-to l =
    (l.to ≤ length l.d)
    × (l.count ≤ l.to)
    × (goes_on l.d l.to false ≡ false)
    × ((rs qs : List Record) → Rest l.c (l.at + 12) rs → Rest l.d 0 qs → Counted (like (chain_at l.c l.at rs)) l.d qs l.count l.to)

abbrev pub decreases-loop-to : goal.decreases-loop-to
decreases-loop-to l = length l.d - l.to
