use Rattle.part_refusals.proofs.closed_in.Goals as goal

pub returns-in-Segment : goal.returns-in-Segment
returns-in-Segment c = rw (c.in-Segment.is, c.letter_or.ensures)

pub returns-in-Ignorable : goal.returns-in-Ignorable
returns-in-Ignorable c = rw c.in-Ignorable.is
