use mathlib.Core.Path.{◌∙◌}
use Rattle.result_rules.proofs.BrokenLaws.{fault_is}
use Rattle.result_rules.proofs.breaks_7.Goals as goal

-- partners::rule_7(t, source.sequence(), target.sequence()).is_some()
pub returns : goal.returns
returns c = c.is_some.ensures ∙ fault_is 7 c.rule_7.result _ c.rule_7.ensures
