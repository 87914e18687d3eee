use Rattle.xml_front.specs.declared.Flaw.TheVariants.{Cut, Wrong}
use Rattle.xml_attributes.proofs.TagLaws.{sixteen, no_attribute_yet, one_more, whole, spoilt_whole, tag_at_fault}
use native.Mathlib.Omega.{arith}
use mathlib.Core.Path.{◌∙◌}
use Rattle.xml_attributes.proofs.read_attributes.Goals as goal

-- the loop's start
pub loop-a-init : goal.loop-a-init
loop-a-init c =
    no_attribute_yet c.args.text.now c.args.start c.args.slots.now c.requires.0 c.requires.1

-- next_attribute(text, at)
pub next_attribute-requires : goal.next_attribute-requires
next_attribute-requires c = c.loop-a.invariant.inside

-- place(text, a, slots, fine)
pub place-fine-requires : goal.place-fine-requires
place-fine-requires c =
    let one = rw (c.in-Ok-One.is, c.in-Ok-One.field-0-is) at c.next_attribute.ensures in
    (one.place, c.loop-a.invariant.size ∙ sixteen c.args.slots.now c.requires.1)

-- count += 1
pub overflow_add-count : goal.overflow_add-count
overflow_add-count c =
    let one = rw (c.in-Ok-One.is, c.in-Ok-One.field-0-is) at c.next_attribute.ensures in
    omega (arith, one.ahead, one.inside, c.loop-a.invariant.few)

-- the loop's measure
pub loop-a-smaller : goal.loop-a-smaller
loop-a-smaller c =
    let one = rw (c.in-Ok-One.is, c.in-Ok-One.field-0-is) at c.next_attribute.ensures in
    omega (arith, one.ahead, one.inside)

-- the loop's step
pub loop-a-preserved : goal.loop-a-preserved
loop-a-preserved c =
    let loop = c.loop-a in
    let args = c.args in
    let text = args.text.now in
    let lent = args.slots.now in
    let one = rw (c.in-Ok-One.is, c.in-Ok-One.field-0-is) at c.next_attribute.ensures in
    one_more text args.start lent loop.slots loop.at loop.count loop.fine loop.invariant _ one _ _
    c.place-fine.ensures

-- Ok(Next::End(next, short)) => return Ok(Tagged { .. })
pub returns-then-fine : goal.returns-then-fine
returns-then-fine c =
    let loop = c.loop-a in
    let args = c.args in
    let text = args.text.now in
    let lent = args.slots.now in
    let end = rw (c.in-Ok-End.is, c.in-Ok-End.field-0-is) at c.next_attribute.ensures in
    whole text args.start lent loop.slots loop.at loop.count loop.fine loop.invariant _ _ end
    c.if-fine.true

-- Ok(Next::End(next, short)) => return Err(Flaw::Wrong)
pub returns-else-fine : goal.returns-else-fine
returns-else-fine c =
    let loop = c.loop-a in
    let args = c.args in
    let text = args.text.now in
    let lent = args.slots.now in
    let end = rw (c.in-Ok-End.is, c.in-Ok-End.field-0-is) at c.next_attribute.ensures in
    spoilt_whole text args.start lent loop.slots loop.at loop.count loop.fine loop.invariant _ _ end
    c.if-fine.false

-- Err(Flaw::Cut) => return Err(Flaw::Cut)
pub returns-in-Err-Cut : goal.returns-in-Err-Cut
returns-in-Err-Cut c =
    let loop = c.loop-a in
    let args = c.args in
    let text = args.text.now in
    tag_at_fault text args.start args.slots.now loop.slots loop.at loop.count loop.fine loop.invariant Cut
    (rw (c.in-Err-Cut.is, c.in-Err-Cut.field-0-is) at c.next_attribute.ensures)

-- Err(Flaw::Wrong) => return Err(Flaw::Wrong)
pub returns-in-Err-Wrong : goal.returns-in-Err-Wrong
returns-in-Err-Wrong c =
    let loop = c.loop-a in
    let args = c.args in
    let text = args.text.now in
    tag_at_fault text args.start args.slots.now loop.slots loop.at loop.count loop.fine loop.invariant Wrong
    (rw (c.in-Err-Wrong.is, c.in-Err-Wrong.field-0-is) at c.next_attribute.ensures)
