use mathlib.Core.Path.{◌∙◌}
use Rattle.xml_nesting.proofs.StepLaws.{less_one}
use Rattle.xml_nesting.proofs.depth_behind.Goals as goal

-- n.saturating_sub(1)
pub returns-in-Closes : goal.returns-in-Closes
returns-in-Closes c = rw c.in-Closes.is (c.saturating_sub.ensures ∙ less_one c.args.n)
