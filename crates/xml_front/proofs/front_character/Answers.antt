use Rattle.xml_front.proofs.FrontLaws.{front_width, front_found, front_forbidden, front_bad}
use mathlib.Core.Bool.{true, false}
use mathlib.Core.Path.{sym, ◌∙◌}
use Rattle.xml_front.proofs.front_character.Goals as goal

-- c.width - 1
pub overflow_sub-result : goal.overflow_sub-result
overflow_sub-result c = front_width c.args.text.now c.char_of.ensures c.in-Some.is

-- Some(c) if xml_char(c.point) => Ok(Front { .. })
pub returns-in-Some : goal.returns-in-Some
returns-in-Some c =
    let text = c.args.text.now in
    front_found text c.char_of.ensures c.in-Some.is (sym c.xml_char.ensures ∙ c.if-xml_char.true)

-- None if cut_in(text) => Err(Flaw::Cut)
pub returns-in-None : goal.returns-in-None
returns-in-None c =
    front_bad c.args.text.now c.char_of.ensures true c.in-None.is (sym c.if-cut_in.true ∙ c.cut_in.ensures)

-- _ => Err(Flaw::Wrong), for a character that XML forbids
pub returns-in_default : goal.returns-in_default
returns-in_default c =
    front_forbidden c.args.text.now c.char_of.ensures c.in-Some.is (sym c.xml_char.ensures ∙ c.if-xml_char.false)

-- _ => Err(Flaw::Wrong), for no character
pub returns-in_default-2 : goal.returns-in_default-2
returns-in_default-2 c =
    front_bad c.args.text.now c.char_of.ensures false c.in-None.is (sym c.if-cut_in.false ∙ c.cut_in.ensures)
