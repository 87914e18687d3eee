use Rattle.xml_values.proofs.ValueLaws.{front_tag, front_ref, front_char}
use Rattle.xliff.proofs.lists.Slices.{tail_is}
use mathlib.Core.Path.{◌∙◌}
use borrow.Author.Rules.{rules}
use Rattle.xml_values.proofs.value_front.Goals as goal

-- return Err(Flaw::Wrong)
pub returns-then-b-eq60 : goal.returns-then-b-eq60
returns-then-b-eq60 c =
    let text = c.args.text.now in
    front_tag text (search rules) c.if-b-eq60.true

-- return front_reference(&text[1..])
pub returns-then-b-eq38 : goal.returns-then-b-eq38
returns-then-b-eq38 c =
    let text = c.args.text.now in
    let if1 = c.if-b-eq60 in
    simp tail_is at c.front_reference.ensures
    ∙ front_ref text (search rules) if1.false c.if-b-eq38.true

-- front_character(text)
pub returns : goal.returns
returns c =
    let text = c.args.text.now in
    c.front_character.ensures ∙ front_char text (search rules) c.if-b-eq60.false c.if-b-eq38.false
