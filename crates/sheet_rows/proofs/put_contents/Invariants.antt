use Rattle.xliff.specs.Item.{Content}
use Rattle.walk.specs.Kept.{Holds}
use Rattle.sheet_rows.proofs.LaterLaws.{Shown, bytes_left}
use Rattle.sheet_rows.proofs.put_contents.Given as goal

-- the rows so far are written
abbrev pub invariant-loop-columns : goal.invariant-loop-columns
invariant-loop-columns l =
    (xs ys : Content) → Holds l.source xs → Holds l.target ys
    → Shown l.source l.target l.fn.draft l.columns l.draft xs ys

abbrev pub decreases-loop-columns : goal.decreases-loop-columns
decreases-loop-columns l = bytes_left l.source l.target l.columns
