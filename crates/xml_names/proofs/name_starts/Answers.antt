use borrow.Author.Rules.{rules}
use Rattle.xml.specs.Characters.{Characters·all}
use Rattle.xml_names.proofs.name_starts.Goals as goal

-- the test
pub returns : goal.returns
unfolding Characters·all
returns c = search rules
