use Rattle.xml.specs.Characters.{Characters·all}
use Rattle.xml_names.proofs.name_goes_on.Goals as goal

-- the test
pub returns : goal.returns
unfolding Characters·all
returns c = rw c.name_starts.ensures
