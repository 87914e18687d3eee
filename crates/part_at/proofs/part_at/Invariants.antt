use Rattle.part_at.proofs.PartLaws.{Reached}
use Rattle.part_at.proofs.part_at.Given as goal

abbrev pub invariant-loop-number : goal.invariant-loop-number
invariant-loop-number l = Reached l.t l.number l.at
