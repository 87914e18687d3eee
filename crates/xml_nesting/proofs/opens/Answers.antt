use mathlib.Core.Path.{sym, ap, ◌∙◌}
use Rattle.xml_nesting.specs.Nesting.{is_opening}
use Rattle.xml_nesting.proofs.StepLaws.{item_opens, not_opening}
use Rattle.xml_nesting.proofs.opens.Goals as goal

-- Step::Opens
pub returns-in-Opens : goal.returns-in-Opens
returns-in-Opens c = ap is_opening (sym c.in-Opens.is) ∙ item_opens c.args.i c.item_step.result c.item_step.ensures

-- another step
pub returns-in_default : goal.returns-in_default
returns-in_default c =
    not_opening c.item_step.result c.in_default.not-Opens ∙ item_opens c.args.i c.item_step.result c.item_step.ensures
