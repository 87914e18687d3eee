use mathlib.Core.Path.{ap, ◌∙◌}
use Rattle.codes.specs.Codes.{code_of, code_at}
use Rattle.codes.proofs.code_at.Goals as goal

-- the code of the mark found
pub returns : goal.returns
unfolding code_at
returns c =
    let mark_at = c.mark_at in
    let code_of_lem = c.code_of in
    code_of_lem.ensures ∙ ap code_of mark_at.ensures
