use Rattle.xml_attribute.proofs.ReadingLaws.{short_cut, short_closed, short_wrong}
use borrow.Author.Rules.{rules}
use Rattle.xml_attribute.proofs.short_end.Goals as goal

-- return Err(Flaw::Cut)
pub returns-then-text-at : goal.returns-then-text-at
returns-then-text-at c = short_cut c.args.text.now c.args.at (search rules) c.if-text-at.true

-- return Ok(Next::End(at + 1, true))
pub returns-then-text-at-eq62 : goal.returns-then-text-at-eq62
returns-then-text-at-eq62 c =
    let args = c.args in
    short_closed args.text.now args.at c.if-text-at.false c.if-text-at-eq62.true

-- Err(Flaw::Wrong)
pub returns : goal.returns
returns c =
    let args = c.args in
    short_wrong args.text.now args.at c.if-text-at.false c.if-text-at-eq62.false
