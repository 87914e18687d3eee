use Rattle.syntax.proofs.step_by.Goals as goal

pub returns-in-Good : goal.returns-in-Good
returns-in-Good c = simp (c.in-Good.is, c.record_step.ensures)
