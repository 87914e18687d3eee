use Rattle.xml.specs.Words.{Words·all}
use Rattle.xml.specs.Attributes.{yes_first_no}
use Rattle.xml_words.proofs.value.Value.yes_first_no.Goals as goal

-- the words are those of the definition
pub returns : goal.returns
unfolding yes_first_no Words·all
returns c = c.letter.ensures
