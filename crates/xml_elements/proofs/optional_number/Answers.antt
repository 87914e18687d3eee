use native.Mathlib.Omega.{arith}
use mathlib.Core.Path.{◌∙◌, ap}
use Rattle.xml_elements.specs.Reading.{BySlots, value_meaning}
use Rattle.xml_elements.proofs.SlotLaws.{optional_read}
use Rattle.xml_elements.proofs.optional_number.Goals as goal

-- slots[slot]
pub bounds-slots-slot : goal.bounds-slots-slot
bounds-slots-slot c =
    let (sized, number) = c.requires in
    omega (arith, sized)

-- u16::try_from(..).ok()
pub returns : goal.returns
unfolding BySlots
returns c =
    let args = c.args in
    let (some, number) = c.requires in
    λ ats told.
    ap value_meaning c.ok.ensures.value ∙ optional_read args.slots.now args.slot ats told number c.or_default.result
    c.or_default.ensures _ c.try_from.ensures
