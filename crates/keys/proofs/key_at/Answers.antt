use mathlib.Core.Path.{◌∙◌}
use native.Mathlib.Omega.{arith}
use Rattle.xliff.proofs.lists.Slices.{tail_is}
use Rattle.keys.proofs.MarkLaws.{key_of_bytes, no_key}
use Rattle.keys.proofs.key_at.Goals as goal

-- beyond the end
pub returns-then-t-at : goal.returns-then-t-at
returns-then-t-at c =
    let args = c.args in
    no_key args.t.now args.at (omega (arith, c.if-t-at.true))

-- the marker at the head of the rest
pub returns : goal.returns
returns c =
    let args = c.args in
    simp tail_is at c.marker_key.ensures ∙ key_of_bytes args.t.now args.at
