use Prim.Native.Nat.{◌-◌}
use lib.ListN.{length}
use Rattle.part_texts.proofs.WalkLaws.{PartsPut}
use Rattle.sheet_rows.proofs.SheetLaws.{part_sheet}
use Rattle.sheet_rows.proofs.put_sheet.Given as goal

-- the rows of the parts so far are written
abbrev pub invariant-loop-place : goal.invariant-loop-place
invariant-loop-place l = PartsPut part_sheet l.t l.initial.draft l.at l.n l.draft

abbrev pub decreases-loop-place : goal.decreases-loop-place
decreases-loop-place l = length l.t - l.at
