use Prim.Native.Nat.{ℕ}
use lib.ListN.{drop}
use Rattle.xliff.specs.Parse.{read}
use Rattle.keys.proofs.FilledLaws.{Filling}
use Rattle.contents.specs.Contents.{bar_key}
use Rattle.contents.proofs.bar_keys.Given as goal

abbrev pub invariant-loop-i : goal.invariant-loop-i
invariant-loop-i l = Filling (λ (o : ℕ). bar_key (read (drop o l.t))) l.markers l.initial.out l.out l.i
