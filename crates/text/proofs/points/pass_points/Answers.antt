use mathlib.Core.Path.{◌∙◌, sym}
use Rattle.text.proofs.PointLaws.{passed_over}
use Rattle.text.proofs.points.pass_points.Goals as goal

-- what `pass_characters` finds behind the blocks is what is sought from the first byte on
pub returns : goal.returns
returns c =
    let args = c.args in
    passed_over args.t.now args.k _ (c.pass_characters.ensures ∙ sym c.pass_blocks-p.ensures.1)
