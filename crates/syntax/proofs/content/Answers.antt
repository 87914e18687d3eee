use Rattle.xliff.specs.Parse.{content_fault}
use borrow.Author.Rules.{rules}
use Rattle.syntax.proofs.content.Goals as goal

-- scan_from(s, Stage::Alone(false))
pub returns : goal.returns
unfolding content_fault
returns c = c.scan_from.ensures

pub scan_from-requires : goal.scan_from-requires
unfolding content_fault
scan_from-requires c = search rules
