use Rattle.table_check.proofs.ChainLaws.{stops, goes_on, rules_left, rules_answer, refused_check}
use Rattle.table_check.proofs.check.Goals as goal

-- return Answer::Refused(n, at)
pub returns-in-Refused : goal.returns-in-Refused
returns-in-Refused c = refused_check c.args.table.now c.in-Refused.n c.in-Refused.at c.in-Refused.ensures

-- orders::count_parts(table)
pub count_parts-parts-requires : goal.count_parts-parts-requires
count_parts-parts-requires c =
    let t = c.args.table.now in
    let left = rules_left t _ c.type_inv.table c.in_default.ensures in
    left.0

-- orders::rule_5(table, parts)
pub rule_5-requires : goal.rule_5-requires
rule_5-requires c =
    let t = c.args.table.now in
    let left = rules_left t _ c.type_inv.table c.in_default.ensures in
    (left.0, c.count_parts-parts.ensures)

-- return Answer::Refused(5, at)
pub returns-in-Some : goal.returns-in-Some
returns-in-Some c =
    let t = c.args.table.now in
    let left = rules_left t _ c.type_inv.table c.in_default.ensures in
    rules_answer t _ left.2 (stops t 5 c.in-Some.at _ c.in-Some.ensures _)

-- from_6(table, parts)
pub from_6-requires : goal.from_6-requires
from_6-requires c =
    let t = c.args.table.now in
    let left = rules_left t _ c.type_inv.table c.in_default.ensures in
    (left.0, left.1, c.count_parts-parts.ensures)

-- from_6(table, parts)
pub returns : goal.returns
returns c =
    let t = c.args.table.now in
    let left = rules_left t _ c.type_inv.table c.in_default.ensures in
    rules_answer t _ left.2 (goes_on t _ c.in_default-rule_5.ensures _ _ c.from_6.ensures)
