use mathlib.Core.Path.{refl}
use Rattle.table.proofs.overlap_letter.Goals as goal

-- alone or not
pub returns : goal.returns
returns c = rw c.yes_no.ensures refl
