use mathlib.Core.Path.{sym, refl, ◌∙◌}
use Rattle.xml_reference.proofs.EntityLaws.{this_entity, another_entity, no_entity}
use Rattle.xml_reference.proofs.entity_of.Goals as goal

-- the loop's start
pub loop-name-init : goal.loop-name-init
loop-name-init c = λ f. refl

-- return Some(Front { .. })
pub returns-then-begins : goal.returns-then-begins
returns-then-begins c =
    let args = c.args in
    let loop = c.loop-name in
    this_entity args.entities.now args.text.now loop.name-index loop.invariant _ c.loop-name-test.true
    (sym c.begins.ensures ∙ c.if-begins.true) _ c.from.ensures

-- the loop's step
pub loop-name-preserved : goal.loop-name-preserved
loop-name-preserved c =
    let args = c.args in
    let loop = c.loop-name in
    another_entity args.entities.now args.text.now loop.name-index loop.invariant _ c.loop-name-test.true
    (sym c.begins.ensures ∙ c.if-begins.false)

-- None
pub returns : goal.returns
returns c =
    let args = c.args in
    let loop = c.loop-name in
    no_entity args.entities.now args.text.now loop.name-index loop.invariant c.loop-name-test.false
