use Rattle.xliff.specs.Join.{dash}
use Rattle.joined_part.proofs.dash_if.Goals as goal

pub returns-then-all : goal.returns-then-all
unfolding dash
returns-then-all c = simp c.if-all.true

-- if all { b'-' } else { b'Y' }
pub returns-else-all : goal.returns-else-all
unfolding dash
returns-else-all c = simp c.if-all.false
