use Rattle.xml.specs.Words.{Words·all}
use Rattle.xml.specs.Attributes.{states}
use Rattle.xml_words.proofs.value.Value.state.Goals as goal

-- the words are those of the definition
pub returns : goal.returns
unfolding states Words·all
returns c = c.letter.ensures
