use mathlib.Core.Path.{refl}
use borrow.Author.Tests.{eq-eqb, ne_eqb}
use Rattle.xliff.specs.Bytes.{'Y'}
use Rattle.xml_elements.specs.Meanings.{half_item}
use Rattle.xml_elements.proofs.half_item.Goals as goal

-- return Item::Isolated(half, f)
pub returns-then-isolated-eq89 : goal.returns-then-isolated-eq89
unfolding half_item
returns-then-isolated-eq89 c = rw (eq-eqb c.args.isolated 'Y' c.if-isolated-eq89.true) refl

-- Item::Pair(Form::S, half, f)
pub returns : goal.returns
unfolding half_item
returns c = rw (ne_eqb c.args.isolated 'Y' c.if-isolated-eq89.false) refl
