use Rattle.xliff.specs.Text.{utf8_3}
use Rattle.utf8.proofs.Steps.{two_more}
use lib.Seq.{sets-eq}
use lib.ListN.{length-set}
use native.Mathlib.Numerals.{add-one}
use native.Mathlib.Omega.{arith}
use Rattle.utf8.proofs.put_three.Goals as goal

-- src/lib.rt:37:5
pub bounds-out-at-2 : goal.bounds-out-at-2
bounds-out-at-2 c = simp length-set (omega arith)

-- src/lib.rt:38:5
pub bounds-out-at-3 : goal.bounds-out-at-3
bounds-out-at-3 c = simp length-set (omega arith)

-- src/lib.rt:32:1
pub returns : goal.returns
returns c =
    let args = c.args in
    rw (add-one, two_more) (sets-eq (utf8_3 args.c) args.out.now args.at c.requires.1)
