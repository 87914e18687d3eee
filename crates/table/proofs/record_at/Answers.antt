use native.Mathlib.Omega.{arith}
use Rattle.xliff.proofs.lists.Slices.{tail_is}
use Rattle.table.proofs.ReadLaws.{no_record}
use Rattle.table.proofs.record_at.Goals as goal

-- beyond the end
pub returns-then-s-at : goal.returns-then-s-at
returns-then-s-at c =
    let args = c.args in
    no_record args.s.now args.at (omega (arith, c.if-s-at.true))

-- the record at the head of the rest
pub returns : goal.returns
returns c = simp tail_is at c.record_of.ensures
