use mathlib.Core.Path.{ap₂, ◌∙◌}
use lib.Dec.{eqb}
use Rattle.marks.proofs.MarkLaws.{two_equal}
use Rattle.marks.proofs.marked_by.Goals as goal

-- the numbers are equal where the bytes are
pub returns : goal.returns
returns c =
    let text = c.two_bytes.ensures in
    let mark = c.two_bytes-2.ensures in
    ap₂ eqb text.0 mark.0 ∙ two_equal _ _ _ _ text.1 mark.1
