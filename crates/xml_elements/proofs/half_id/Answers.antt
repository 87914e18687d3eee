use mathlib.Core.Path.{refl}
use borrow.Author.Tests.{eq-eqb, ne_eqb}
use Rattle.xliff.specs.Bytes.{'Y'}
use Rattle.xml_elements.proofs.half_id.Goals as goal

-- return ID
pub returns-then-isolated-eq89 : goal.returns-then-isolated-eq89
returns-then-isolated-eq89 c = rw (eq-eqb c.args.isolated 'Y' c.if-isolated-eq89.true) refl

-- START_REF
pub returns : goal.returns
returns c = rw (ne_eqb c.args.isolated 'Y' c.if-isolated-eq89.false) refl
