use native.Mathlib.Omega.{arith}
use lib.ListN.{get_or}
use Rattle.xml_slots.specs.Slots.{ByAttributes}
use Rattle.xml_elements.proofs.CountLaws.{apart_at, held_most, total_next, total_end, only_told}
use Rattle.xml_elements.proofs.has_only.Goals as goal

-- slots[slot]: the slot is one of 16
pub offset_bounds-filled-slot : goal.offset_bounds-filled-slot
offset_bounds-filled-slot c =
    let differ = c.requires in
    omega (arith, apart_at c.args.those.now differ c.loop-slot.slot-index c.loop-slot-test.true)

pub bounds-filled-slot : goal.bounds-filled-slot
bounds-filled-slot c =
    let args = c.args in
    let differ = c.requires in
    omega (arith, args.filled.sized, apart_at args.those.now differ c.loop-slot.slot-index c.loop-slot-test.true)

-- there += present(slots[slot])
pub overflow_add-there : goal.overflow_add-there
overflow_add-there c =
    let args = c.args in
    let (low, few, so_far) = c.loop-slot.invariant in
    omega (
      arith,
      c.present-there.ensures,
      held_most args.filled.slots.now (get_or args.those.now
          c.loop-slot.slot-index 0),
    )

pub loop-slot-preserved : goal.loop-slot-preserved
loop-slot-preserved c =
    let args = c.args in
    let slots = args.filled.slots.now in
    let those = args.those.now in
    let i = c.loop-slot.slot-index in
    let (low, few, so_far) = c.loop-slot.invariant in
    let one = c.present-there.ensures in
    let most = held_most slots (get_or those i 0) in
    let next = total_next slots those i c.loop-slot-test.true in
    (omega arith, omega arith, omega arith)

-- there == count
pub returns : goal.returns
unfolding ByAttributes
returns c =
    let args = c.args in
    let slots = args.filled.slots.now in
    let those = args.those.now in
    let differ = c.requires in
    let (low, few, so_far) = c.loop-slot.invariant in
    let end = total_end slots those c.loop-slot.slot-index c.loop-slot-test.false in
    λ ats slotted. only_told slots args.filled.count ats slotted those differ c.loop-slot.there (omega arith)
