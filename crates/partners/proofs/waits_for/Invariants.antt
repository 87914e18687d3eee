use Rattle.partners.specs.Partners.{waits_for_key}
use lib.ListN.{take, drop, length}
use mathlib.Core.List.{[], reverse}
use mathlib.Core.Path.{◌≡◌}
use Prim.Native.Nat.{◌≤◌}
use Rattle.xliff.specs.Parse.{most_records}
use Rattle.partners.proofs.waits_for.Given as goal

abbrev pub invariant-loop-i : goal.invariant-loop-i
invariant-loop-i l =
    (l.i ≤ length l.bars)
    × (length l.stack ≡ most_records)
    × (waits_for_key l.x [] l.bars ≡ waits_for_key l.x (reverse (take l.i l.bars)) (drop l.i l.bars))
