use mathlib.Core.Path.{refl}
use Rattle.table.proofs.fields_ok.Goals as goal

-- each letter, and the id
pub returns : goal.returns
returns c =
    let overlap-letter = c.overlap_letter-overlap in
    rw (
      overlap-letter.ensures,
      c.yes_no.ensures,
      c.yes_no-2.ensures,
      c.reorder_letter.ensures,
    ) refl
