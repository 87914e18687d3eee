use Rattle.part_refusals.proofs.closed_by.Goals as goal

pub returns-in-Good : goal.returns-in-Good
returns-in-Good c = rw (c.in-Good.is, c.closed_in.ensures)
