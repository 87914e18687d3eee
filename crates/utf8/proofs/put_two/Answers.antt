use Rattle.xliff.specs.Text.{utf8_2}
use lib.Seq.{sets-eq}
use lib.ListN.{length-set}
use native.Mathlib.Numerals.{add-one}
use native.Mathlib.Omega.{arith}
use Rattle.utf8.proofs.put_two.Goals as goal

-- src/lib.rt:29:5
pub bounds-out-at-2 : goal.bounds-out-at-2
bounds-out-at-2 c = simp length-set (omega arith)

-- src/lib.rt:24:1
pub returns : goal.returns
returns c =
    let args = c.args in
    rw add-one (sets-eq (utf8_2 args.c) args.out.now args.at c.requires.1)
