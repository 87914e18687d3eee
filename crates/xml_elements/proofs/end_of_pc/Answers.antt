use mathlib.Core.Path.{refl}
use borrow.Author.Tests.{eq-eqb, ne_eqb}
use Rattle.xliff.specs.Bytes.{'F'}
use Rattle.xliff.specs.Rules.{end_letter}
use Rattle.xml.specs.Elements.{end_of_pc}
use Rattle.xml_elements.proofs.end_of_pc.Goals as goal

-- reorder: b'N'
pub returns-then-letters-eq70 : goal.returns-then-letters-eq70
unfolding end_of_pc end_letter
returns-then-letters-eq70 c =
    let reorder = c.args.f.letters.reorder in
    rw (eq-eqb reorder 'F' c.if-letters-eq70.true) refl

-- reorder: letters.reorder
pub returns-else-letters-eq70 : goal.returns-else-letters-eq70
unfolding end_of_pc end_letter
returns-else-letters-eq70 c =
    let reorder = c.args.f.letters.reorder in
    rw (ne_eqb reorder 'F' c.if-letters-eq70.false) refl
