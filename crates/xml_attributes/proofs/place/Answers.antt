use Rattle.xml_attribute.specs.Attribute.{attribute_of}
use Rattle.xml_attributes.proofs.SlotLaws.{spoilt_before, strange_name, twice, placed}
use borrow.Author.Tests.{not-true, not-false}
use mathlib.Core.Path.{refl}
use native.Mathlib.Omega.{arith}
use Rattle.xml_attributes.proofs.place.Goals as goal

-- if !fine { return false; }
pub returns-then-not-fine : goal.returns-then-not-fine
returns-then-not-fine c =
    let args = c.args in
    spoilt_before (attribute_of args.text.now args.a) args.slots.now args.fine (not-true _ c.if-not-fine.true-raw)

-- slot_of(a.name.of(text)) is None: return false
pub returns-in_default : goal.returns-in_default
unfolding attribute_of
returns-in_default c =
    let args = c.args in
    let slot = rw (c.in_default.is, c.of.ensures) at c.slot_of.ensures in
    strange_name (attribute_of args.text.now args.a) args.slots.now args.fine (not-false _ c.if-not-fine.false-raw)
    _ refl (omega arith)

-- if slots[k] != ABSENT { return false; }
pub returns-then-slots-k-ne-ABSENT : goal.returns-then-slots-k-ne-ABSENT
unfolding attribute_of
returns-then-slots-k-ne-ABSENT c =
    let args = c.args in
    let slot = rw (c.in-Some.is, c.of.ensures) at c.slot_of.ensures in
    twice (attribute_of args.text.now args.a) args.slots.now args.fine (not-false _ c.if-not-fine.false-raw)
    _ slot.0 slot.1 c.if-slots-k-ne-ABSENT.true

-- slots[k] = slot_value(text, a.value, a.mark, k)
pub returns : goal.returns
unfolding attribute_of
returns c =
    let args = c.args in
    let slot = rw (c.in-Some.is, c.of.ensures) at c.slot_of.ensures in
    placed (attribute_of args.text.now args.a) args.slots.now args.fine (not-false _ c.if-not-fine.false-raw)
    _ slot.0 c.slot_value.result c.slot_value.ensures slot.1 c.if-slots-k-ne-ABSENT.false
