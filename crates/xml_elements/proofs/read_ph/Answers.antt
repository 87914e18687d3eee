use mathlib.Core.Path.{refl}
use borrow.Author.Tests.{not-true, not-false}
use Rattle.xliff.specs.Bytes.{among}
use Rattle.xml.specs.Attributes.{with}
use Rattle.xml.specs.Elements.{read_ph}
use Rattle.xml_slots.specs.Slots.{ByAttributes}
use Rattle.xml_elements.specs.Reading.{apart, BySlots, words_of}
use Rattle.xml_elements.proofs.read_ph.Goals as goal

-- has_only(..): none of the slots twice
pub has_only-requires : goal.has_only-requires
unfolding apart among
has_only-requires c = refl

-- other attributes: None
pub returns-then-not-has_only : goal.returns-then-not-has_only
unfolding ByAttributes read_ph
returns-then-not-has_only c = λ ats s. rw (← c.has_only.ensures ats s, not-true _ c.if-not-has_only.true-raw) refl

-- no fields: None
pub returns-in_err-f : goal.returns-in_err-f
unfolding ByAttributes BySlots words_of with read_ph
returns-in_err-f c =
    λ ats s.
    rw (
      c.from_residual.ensures,
      ← c.has_only.ensures ats s,
      not-false _ c.if-not-has_only.false-raw,
      ← c.in_err-f.ensures ats s.told,
    ) refl

-- Some(Inline::Single(Item::Standalone(f)))
pub returns : goal.returns
unfolding ByAttributes BySlots words_of with read_ph
returns c =
    λ ats s.
    rw (← c.has_only.ensures ats s, not-false _ c.if-not-has_only.false-raw, ← c.in_ok-f.ensures ats s.told) refl
