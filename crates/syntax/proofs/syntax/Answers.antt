use borrow.Author.Tests.{lt-ltb, le-ltb}
use Rattle.xliff.specs.Parse.{table_fault}
use Rattle.xliff.specs.Answer.{applies, ◌then◌, unless, answer}
use borrow.Author.Rules.{rules}
use Rattle.syntax.proofs.syntax.Goals as goal

-- return Answer::Refused(1, 0)
pub returns-then-t-gt-MOST_BYTES : goal.returns-then-t-gt-MOST_BYTES
unfolding table_fault applies ◌then◌ unless answer
returns-then-t-gt-MOST_BYTES c = simp (lt-ltb _ _ c.if-t-gt-MOST_BYTES.true)

-- scan_from(t, Stage::UnitDue)
pub returns : goal.returns
unfolding table_fault applies ◌then◌ unless answer
returns c = simp (le-ltb _ _ c.if-t-gt-MOST_BYTES.false, c.scan_from.ensures)

pub scan_from-requires : goal.scan_from-requires
unfolding table_fault applies ◌then◌ unless answer
scan_from-requires c = search rules
