use borrow.Author.Tests.{eq-eqb, ne_eqb}
use Rattle.grants.specs.Grant.{role_of}
use Rattle.granted_parts.proofs.role_of.Goals as goal

-- if letter == b'T' { return Role::Translator; }
pub returns-then-letter-eq84 : goal.returns-then-letter-eq84
unfolding role_of
returns-then-letter-eq84 c = simp (eq-eqb _ _ c.if-letter-eq84.true)

-- if letter == b'R' { return Role::Reviewer; }
pub returns-then-letter-eq82 : goal.returns-then-letter-eq82
unfolding role_of
returns-then-letter-eq82 c = simp (ne_eqb _ _ c.if-letter-eq84.false, eq-eqb _ _ c.if-letter-eq82.true)

-- if letter == b'E' { return Role::Engineer; }
pub returns-then-letter-eq69 : goal.returns-then-letter-eq69
unfolding role_of
returns-then-letter-eq69 c =
    simp (ne_eqb _ _ c.if-letter-eq84.false, ne_eqb _ _ c.if-letter-eq82.false, eq-eqb _ _ c.if-letter-eq69.true)

-- Role::Other
pub returns : goal.returns
unfolding role_of
returns c =
    simp (ne_eqb _ _ c.if-letter-eq84.false, ne_eqb _ _ c.if-letter-eq82.false, ne_eqb _ _ c.if-letter-eq69.false)
