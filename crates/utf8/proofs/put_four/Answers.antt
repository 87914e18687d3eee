use Rattle.xliff.specs.Text.{utf8_4}
use Rattle.utf8.proofs.Steps.{two_more, three_more}
use lib.Seq.{sets-eq}
use lib.ListN.{length-set}
use native.Mathlib.Numerals.{add-one}
use native.Mathlib.Omega.{arith}
use Rattle.utf8.proofs.put_four.Goals as goal

-- src/lib.rt:46:5
pub bounds-out-at-2 : goal.bounds-out-at-2
bounds-out-at-2 c = simp length-set (omega arith)

-- src/lib.rt:47:5
pub bounds-out-at-3 : goal.bounds-out-at-3
bounds-out-at-3 c = simp length-set (omega arith)

-- src/lib.rt:48:5
pub bounds-out-at-4 : goal.bounds-out-at-4
bounds-out-at-4 c = simp length-set (omega arith)

-- src/lib.rt:41:1
pub returns : goal.returns
returns c =
    let args = c.args in
    rw (add-one, two_more, three_more) (sets-eq (utf8_4 args.c) args.out.now args.at c.requires.1)
