use mathlib.Core.Path.{refl}
use borrow.Author.Tests.{not-true, not-false}
use Rattle.xliff.specs.Bytes.{among}
use Rattle.xml.specs.Attributes.{with}
use Rattle.xml.specs.Elements.{segment_head}
use Rattle.xml_slots.specs.Slots.{ByAttributes}
use Rattle.xml_elements.specs.Reading.{apart, BySlots, words_of}
use Rattle.xml_heads.proofs.segment_head.Goals as goal

-- has_only(..): none of the slots twice
pub has_only-requires : goal.has_only-requires
unfolding apart among
has_only-requires c = refl

-- other attributes: None
pub returns-then-not-has_only : goal.returns-then-not-has_only
unfolding ByAttributes segment_head
returns-then-not-has_only c = λ ats s. rw (← c.has_only.ensures ats s, not-true _ c.if-not-has_only.true-raw) refl

-- no id: None
pub returns-in_err-id : goal.returns-in_err-id
unfolding ByAttributes BySlots words_of with segment_head
returns-in_err-id c =
    λ ats s.
    rw (
      c.from_residual.ensures,
      ← c.has_only.ensures ats s,
      not-false _ c.if-not-has_only.false-raw,
      ← c.in_err-id.ensures ats s.told,
    ) refl

-- no canResegment: None
pub returns-in_err-can_resegment : goal.returns-in_err-can_resegment
unfolding ByAttributes BySlots words_of with segment_head
returns-in_err-can_resegment c =
    λ ats s.
    rw (
      c.from_residual-in_err-can_resegment.ensures,
      ← c.has_only.ensures ats s,
      not-false _ c.if-not-has_only.false-raw,
      ← c.in_ok-id.ensures ats s.told,
      ← c.in_err-can_resegment.ensures ats s.told,
    ) refl

-- no state: None
pub returns-in_err-state : goal.returns-in_err-state
unfolding ByAttributes BySlots words_of with segment_head
returns-in_err-state c =
    λ ats s.
    rw (
      c.from_residual-in_err-state.ensures,
      ← c.has_only.ensures ats s,
      not-false _ c.if-not-has_only.false-raw,
      ← c.in_ok-id.ensures ats s.told,
      ← c.in_ok-can_resegment.ensures ats s.told,
      ← c.in_err-state.ensures ats s.told,
    ) refl

-- Some(Head::Segment(Segment { .. }))
pub returns : goal.returns
unfolding ByAttributes BySlots words_of with segment_head
returns c =
    λ ats s.
    rw (
      ← c.has_only.ensures ats s,
      not-false _ c.if-not-has_only.false-raw,
      ← c.in_ok-id.ensures ats s.told,
      ← c.in_ok-can_resegment.ensures ats s.told,
      ← c.in_ok-state.ensures ats s.told,
    ) refl
