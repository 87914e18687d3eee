use borrow.Author.Rules.{rules}
use Rattle.xliff.specs.Text.{between, is_accent}
use Rattle.text.proofs.is_accent.Goals as goal

pub returns : goal.returns
unfolding between is_accent
returns c = search rules
