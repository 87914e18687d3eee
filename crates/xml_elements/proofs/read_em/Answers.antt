use mathlib.Core.Path.{refl}
use borrow.Author.Tests.{not-true, not-false}
use Rattle.xliff.specs.Bytes.{among}
use Rattle.xml.specs.Attributes.{with}
use Rattle.xml.specs.Elements.{read_em}
use Rattle.xml_slots.specs.Slots.{ByAttributes}
use Rattle.xml_elements.specs.Reading.{apart, BySlots, words_of}
use Rattle.xml_elements.proofs.read_em.Goals as goal

-- has_only(..): none of the slots twice
pub has_only-requires : goal.has_only-requires
unfolding apart among
has_only-requires c = refl

-- other attributes: None
pub returns-then-not-has_only : goal.returns-then-not-has_only
unfolding ByAttributes read_em
returns-then-not-has_only c = λ ats s. rw (← c.has_only.ensures ats s, not-true _ c.if-not-has_only.true-raw) refl

-- no id: None
pub returns-in_err-id : goal.returns-in_err-id
unfolding ByAttributes BySlots words_of with read_em
returns-in_err-id c =
    λ ats s.
    rw (
      c.from_residual.ensures,
      ← c.has_only.ensures ats s,
      not-false _ c.if-not-has_only.false-raw,
      ← c.in_err-id.ensures ats s.told,
    ) refl

-- Some(Inline::Single(Item::AnnotationEnd(Form::S, id)))
pub returns : goal.returns
unfolding ByAttributes BySlots words_of with read_em
returns c =
    λ ats s.
    rw (← c.has_only.ensures ats s, not-false _ c.if-not-has_only.false-raw, ← c.in_ok-id.ensures ats s.told) refl
