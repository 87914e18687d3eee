use Rattle.xml_attribute.proofs.NameLaws.{equals_missing, equals_wrong, equals_read}
use Rattle.xml_attribute.proofs.attribute_at.Goals as goal

-- return Err(Flaw::Cut)
pub returns-then-text-equals : goal.returns-then-text-equals
returns-then-text-equals c =
    let pre = c.requires in
    let name_end = c.name_end-upto in
    let blanks-end = c.blanks_end-equals in
    equals_missing c.args.text.now c.args.at name_end.result blanks-end.result pre.0
    pre.1 name_end.ensures blanks-end.ensures c.if-text-equals.true

-- return Err(Flaw::Wrong)
pub returns-then-text-equals-ne61 : goal.returns-then-text-equals-ne61
returns-then-text-equals-ne61 c =
    let pre = c.requires in
    let name_end = c.name_end-upto in
    let blanks-end = c.blanks_end-equals in
    equals_wrong c.args.text.now c.args.at name_end.result blanks-end.result pre.0 pre.1
    name_end.ensures blanks-end.ensures c.if-text-equals.false c.if-text-equals-ne61.true

-- value_at(text, Span { from: at, upto }, equals + 1)
pub returns : goal.returns
returns c =
    let pre = c.requires in
    let name_end = c.name_end-upto in
    let blanks-end = c.blanks_end-equals in
    let if1 = c.if-text-equals in
    equals_read c.args.text.now c.args.at name_end.result blanks-end.result pre.0 pre.1
    name_end.ensures blanks-end.ensures if1.false c.if-text-equals-ne61.false c.value_at.result
    c.value_at.ensures
