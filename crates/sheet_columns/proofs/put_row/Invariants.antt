use Rattle.sheet_columns.proofs.StepLaws.{bytes_left, SoFar}
use Rattle.sheet_columns.proofs.put_row.Given as goal

-- the row so far
abbrev pub invariant-loop-row : goal.invariant-loop-row
invariant-loop-row l = SoFar l.c l.initial.row l.initial.draft l.row l.draft

abbrev pub decreases-loop-row : goal.decreases-loop-row
decreases-loop-row l = bytes_left l.c l.row
