use mathlib.Core.Path.{◌≡◌}
use mathlib.Core.List.{map}
use lib.ListN.{length, take}
use Rattle.sheet.specs.Column.{cell}
use Rattle.sheet_forms.proofs.put_cells.Given as goal

-- the cells of the bytes so far
abbrev pub invariant-loop-i : goal.invariant-loop-i
invariant-loop-i l = (length l.cells ≡ 132) × (take l.i l.cells ≡ map cell (take l.i l.piece))
