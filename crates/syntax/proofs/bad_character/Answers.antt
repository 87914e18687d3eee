use Rattle.syntax.proofs.bad_character.Goals as goal

-- (0x10FFFF < c) | text::xml_char(c)
pub returns : goal.returns
returns c = simp c.xml_char.ensures
