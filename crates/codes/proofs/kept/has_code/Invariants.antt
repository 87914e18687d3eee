use mathlib.Core.List.{List}
use Prim.Native.Nat.{◌≤◌, ◌-◌}
use lib.ListN.{length, drop}
use Rattle.xliff.specs.Encode.{Record}
use Rattle.walk.specs.Kept.{Of}
use Rattle.walk.proofs.WalkLaws.{Searched}
use Rattle.codes.specs.Lost.{is_code_at}
use Rattle.codes.proofs.kept.has_code.Given as goal

abbrev pub invariant-loop-to : goal.invariant-loop-to
invariant-loop-to l = (l.to ≤ length l.new) × ((qs : List Record) → Of l.new qs → Searched (is_code_at (drop l.at l.old)) l.new qs l.to)

abbrev pub decreases-loop-to : goal.decreases-loop-to
decreases-loop-to l = length l.new - l.to
