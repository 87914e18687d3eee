use mathlib.Core.Path.{refl}
use borrow.Author.Tests.{not-true, not-false}
use Rattle.xliff.specs.Bytes.{among}
use Rattle.xml.specs.Attributes.{with}
use Rattle.xml.specs.Elements.{unit_opening}
use Rattle.xml_slots.specs.Slots.{ByAttributes}
use Rattle.xml_elements.specs.Reading.{apart, BySlots, words_of}
use Rattle.xml_heads.proofs.HeadLaws.{opening_is}
use Rattle.xml_heads.proofs.unit_opening.Goals as goal

-- has_only(..): none of the slots twice
pub has_only-requires : goal.has_only-requires
unfolding apart among
has_only-requires c = refl

-- other attributes: None
pub returns-then-not-has_only : goal.returns-then-not-has_only
unfolding ByAttributes unit_opening
returns-then-not-has_only c = λ ats s. rw (← c.has_only.ensures ats s, not-true _ c.if-not-has_only.true-raw) refl

-- no id: None
pub returns-in_err-required_number : goal.returns-in_err-required_number
unfolding ByAttributes BySlots words_of with unit_opening
returns-in_err-required_number c =
    λ ats s.
    rw (
      c.from_residual.ensures,
      ← c.has_only.ensures ats s,
      not-false _ c.if-not-has_only.false-raw,
      ← c.in_err-required_number.ensures ats s.told,
    ) refl

-- letter(slots, CAN_RESEGMENT, b'Y')
pub returns : goal.returns
unfolding ByAttributes BySlots words_of with unit_opening
returns c =
    λ ats s.
    rw (
      ← c.has_only.ensures ats s,
      not-false _ c.if-not-has_only.false-raw,
      ← c.in_ok-required_number.ensures ats s.told,
      ← c.letter.ensures ats s.told,
    ) (opening_is c.letter.result)
