use Rattle.xml.specs.Characters.{cut_character}
use Rattle.xml_front.proofs.cut_in.Goals as goal

-- goes_on(text, 0x80) | goes_on(text, 0xBF)
pub returns : goal.returns
unfolding cut_character
returns c = simp (c.goes_on.ensures, c.goes_on-2.ensures)
