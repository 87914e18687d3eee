use Rattle.xml.specs.Words.{Words·all}
use Rattle.xml_attributes.proofs.slot_of.Goals as goal

-- the words are those of the definition
pub returns : goal.returns
unfolding Words·all
returns c = c.place_among.ensures
