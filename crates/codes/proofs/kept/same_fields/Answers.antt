use mathlib.Core.Path.{◌∙◌}
use Rattle.codes.proofs.LostLaws.{fields_equal}
use Rattle.codes.proofs.kept.same_fields.Goals as goal

-- the bytes behind the marks
pub returns : goal.returns
returns c = c.eq.ensures ∙ fields_equal c.args.t.now c.args.u.now c.requires.0 c.requires.1
