use mathlib.Core.Path.{sym, ap}
use Rattle.xliff.specs.Answer.{of_result}
use Rattle.result_rules.proofs.BrokenLaws.{first_is, met_is, next_is, last_is}
use Rattle.result_rules.proofs.rules_7_and_9.Goals as goal

-- return Some(7)
pub returns-then-is_some : goal.returns-then-is_some
returns-then-is_some c = first_is 7 c.rule_7.result _ c.rule_7.ensures _ (sym c.if-is_some.ensures)

-- return Some(9)
pub returns-then-is_some-2 : goal.returns-then-is_some-2
returns-then-is_some-2 c =
    next_is _ _ _ (met_is 7 c.rule_7.result _ c.rule_7.ensures (sym c.if-is_some.ensures))
    (last_is 9 c.rule_9.result _ c.rule_9.ensures (sym c.if-is_some-2.ensures))

-- None
pub returns : goal.returns
unfolding of_result
returns c =
    next_is _ _ _ (met_is 7 c.rule_7.result _ c.rule_7.ensures (sym c.if-is_some.ensures))
    (ap of_result (met_is 9 c.rule_9.result _ c.rule_9.ensures (sym c.if-is_some-2.ensures)))
