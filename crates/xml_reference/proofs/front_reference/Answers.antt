use Rattle.xml_reference.proofs.ReferenceLaws.{no_reference, by_number, by_name}
use mathlib.Core.Path.{◌∙◌}
use Rattle.xml_reference.proofs.front_reference.Goals as goal

-- return Err(Flaw::Cut)
pub returns-then-text-lt1 : goal.returns-then-text-lt1
returns-then-text-lt1 c = no_reference c.args.text.now c.if-text-lt1.true

-- return numeric_by(text)
pub returns-then-text-eq35 : goal.returns-then-text-eq35
returns-then-text-eq35 c =
    let text = c.args.text.now in
    let if1 = c.if-text-lt1 in
    c.numeric_by.ensures ∙ by_number text if1.false c.if-text-eq35.true

-- entity_at(text)
pub returns : goal.returns
returns c =
    let text = c.args.text.now in
    let if1 = c.if-text-lt1 in
    c.entity_at.ensures ∙ by_name text if1.false c.if-text-eq35.false
