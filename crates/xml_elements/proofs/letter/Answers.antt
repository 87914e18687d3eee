use native.Mathlib.Omega.{arith}
use mathlib.Core.Path.{◌∙◌, ap}
use Rattle.xml_elements.specs.Reading.{BySlots, value_meaning}
use Rattle.xml_elements.proofs.SlotLaws.{letter_read}
use Rattle.xml_elements.proofs.letter.Goals as goal

-- slots[slot]
pub bounds-slots-slot : goal.bounds-slots-slot
bounds-slots-slot c =
    let (sized, (low, high)) = c.requires in
    omega (arith, sized)

-- u8::try_from(..).ok()
pub returns : goal.returns
unfolding BySlots
returns c =
    let args = c.args in
    let (some, (low, high)) = c.requires in
    λ ats told.
    ap value_meaning c.ok.ensures.value
    ∙ letter_read args.slots.now args.slot ats told low high args.default (omega arith) c.or_default.result
    (rw c.from.ensures at c.or_default.ensures) _ c.try_from.ensures
