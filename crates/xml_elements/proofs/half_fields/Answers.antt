use mathlib.Core.Path.{refl}
use borrow.Author.Tests.{not-true, not-false}
use Rattle.xml_slots.specs.Slots.{ByAttributes}
use Rattle.xml_elements.specs.Reading.{BySlots, words_of}
use Rattle.xml_elements.specs.Meanings.{half_fields}
use Rattle.xml_elements.proofs.half_fields.Goals as goal

-- other attributes: None
pub returns-then-not-has_only : goal.returns-then-not-has_only
unfolding ByAttributes half_fields
returns-then-not-has_only c = λ ats s. rw (← c.has_only.ensures ats s, not-true _ c.if-not-has_only.true-raw) refl

-- code_fields(slots, id_slot, DATA_REF, overlap)
pub returns : goal.returns
unfolding ByAttributes BySlots words_of half_fields
returns c =
    λ ats s.
    rw (
      ← c.has_only.ensures ats s,
      not-false _ c.if-not-has_only.false-raw,
      ← c.letter-overlap.ensures ats s.told,
      ← c.code_fields.ensures ats s.told,
    ) refl
