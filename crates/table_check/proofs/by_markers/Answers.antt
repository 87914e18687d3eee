use Rattle.table_check.proofs.ChainLaws.{stops, goes_on, stops_last, all_met}
use Rattle.table_check.proofs.by_markers.Goals as goal

-- return Answer::Refused(7, at)
pub returns-in-Some : goal.returns-in-Some
returns-in-Some c = stops c.args.t.now 7 c.in-Some.at _ c.in-Some.ensures _

-- return Answer::Refused(8, at)
pub returns-in-Some-rule_8 : goal.returns-in-Some-rule_8
returns-in-Some-rule_8 c =
    let t = c.args.t.now in
    goes_on t _ c.in_default.ensures _ _
    (stops t 8 c.in-Some-rule_8.at _ c.in-Some-rule_8.ensures _)

-- return Answer::Refused(9, at)
pub returns-in-Some-rule_9 : goal.returns-in-Some-rule_9
returns-in-Some-rule_9 c =
    let t = c.args.t.now in
    goes_on t _ c.in_default.ensures _ _
    (goes_on t _ c.in_default-rule_8.ensures _ _
    (stops t 9 c.in-Some-rule_9.at _ c.in-Some-rule_9.ensures _))

-- return Answer::Refused(10, at)
pub returns-in-Some-rule_10 : goal.returns-in-Some-rule_10
returns-in-Some-rule_10 c =
    let t = c.args.t.now in
    goes_on t _ c.in_default.ensures _ _
    (goes_on t _ c.in_default-rule_8.ensures _ _
    (goes_on t _ c.in_default-rule_9.ensures _ _
    (stops_last t 10 c.in-Some-rule_10.at _ c.in-Some-rule_10.ensures)))

-- Answer::Accepted(t.len())
pub returns : goal.returns
returns c =
    let t = c.args.t.now in
    goes_on t _ c.in_default.ensures _ _
    (goes_on t _ c.in_default-rule_8.ensures _ _
    (goes_on t _ c.in_default-rule_9.ensures _ _
    (all_met t _ c.in_default-rule_10.ensures)))
