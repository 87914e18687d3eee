use Rattle.syntax.proofs.unit_next.Goals as goal

pub returns-in-UnitDue : goal.returns-in-UnitDue
returns-in-UnitDue c = simp c.in-UnitDue.is
