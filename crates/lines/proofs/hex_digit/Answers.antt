use mathlib.Core.Path.{refl}
use borrow.Author.Tests.{lt-ltb, le-ltb}
use Rattle.xliff.specs.Desk.{hex_digit}
use Rattle.lines.proofs.hex_digit.Goals as goal

-- return 48 + d
pub returns-then-d-lt10 : goal.returns-then-d-lt10
unfolding hex_digit
returns-then-d-lt10 c = rw (lt-ltb _ 10 c.if-d-lt10.true) refl

-- 55 + d
pub returns : goal.returns
unfolding hex_digit
returns c = rw (le-ltb _ 10 c.if-d-lt10.false) refl
