use Rattle.xml_reference.proofs.ReferenceLaws.{behind_none, behind_x, behind_digits}
use mathlib.Core.Path.{◌∙◌}
use Rattle.xml_reference.proofs.numeric_by.Goals as goal

-- return Err(Flaw::Cut)
pub returns-then-text-lt2 : goal.returns-then-text-lt2
returns-then-text-lt2 c = behind_none c.args.text.now c.if-text-lt2.true

-- return numeric_at(text, 2, true)
pub returns-then-text-eq120 : goal.returns-then-text-eq120
returns-then-text-eq120 c =
    let text = c.args.text.now in
    let if1 = c.if-text-lt2 in
    c.numeric_at.ensures ∙ behind_x text if1.false c.if-text-eq120.true

-- numeric_at(text, 1, false)
pub returns : goal.returns
returns c =
    let text = c.args.text.now in
    let if1 = c.if-text-lt2 in
    c.numeric_at-2.ensures ∙ behind_digits text if1.false c.if-text-eq120.false
