use Rattle.sequences.specs.Targets.{heads_of, of_order}
use Rattle.sequences.specs.Marks.{offsets}
use Rattle.sequences.proofs.FillLaws.{Filled}
use Rattle.xliff.specs.Bytes.{gather}
use lib.ListN.{length, take, drop}
use mathlib.Core.List.{◌++◌}
use mathlib.Core.Bool.{false}
use Prim.Native.Nat.{◌+◌}
use Rattle.sequences.proofs.collect.Given as goal

abbrev pub invariant-loop-i : goal.invariant-loop-i
invariant-loop-i l =
    Filled l.out l.m (gather (of_order l.q) (drop l.i (heads_of l.t))) (take l.n l.initial.out ++ offsets false l.q l.t)
    (length (offsets false l.q l.t) + l.n) (length l.initial.out)
