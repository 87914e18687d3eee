use Rattle.nesting.proofs.BarLaws.{lone_left}
use Rattle.answers.specs.Answers.{toward}
use Rattle.xliff.specs.Rules.{lone_P}
use Rattle.xliff.specs.Sequences.{located, placed_contents, blamed, first_of}
use Rattle.xliff.specs.Parse.{unit, most_records}
use Rattle.xliff.specs.Bytes.{gather}
use mathlib.Core.Path.{◌≡◌}
use mathlib.Core.List.{[]}
use lib.ListN.{length}
use Prim.Native.Nat.{◌≤◌}
use Rattle.nesting.proofs.first_lone.Given as goal

abbrev pub invariant-loop-i : goal.invariant-loop-i
invariant-loop-i l =
    (l.i ≤ length l.bars.markers.now)
    × (length l.stack ≡ most_records)
    × (first_of 7 (gather (blamed lone_P []) (placed_contents (located (unit l.t).parts)))
    ≡ toward 7 l.best (lone_left l.t l.bars.markers.now l.i))
