use mathlib.Core.Path.{refl}
use native.Mathlib.Omega.{arith}
use borrow.Author.Tests.{not-true, not-false}
use Rattle.xliff.specs.Bytes.{among}
use Rattle.xml.specs.Attributes.{with}
use Rattle.xml_slots.specs.Slots.{ByAttributes}
use Rattle.xml_elements.specs.Reading.{apart}
use Rattle.xml_elements.proofs.ElementLaws.{cp_is, digits_read}
use Rattle.xml_elements.proofs.read_cp.Goals as goal

-- filled.slots[HEX]
pub bounds-filled-7 : goal.bounds-filled-7
bounds-filled-7 c =
    omega (arith, c.args.filled.sized)

-- has_only(slots, count, &[HEX]): none of them twice
pub has_only-requires : goal.has_only-requires
unfolding apart among
has_only-requires c = refl

-- other attributes: None
pub returns-then-not-has_only : goal.returns-then-not-has_only
unfolding ByAttributes
returns-then-not-has_only c =
    λ ats s. rw (cp_is ats, ← c.has_only.ensures ats s, not-true _ c.if-not-has_only.true-raw) refl

-- no digits: None
pub returns-in_err-hex : goal.returns-in_err-hex
unfolding ByAttributes with
returns-in_err-hex c =
    λ ats s.
    let read = digits_read c.args.filled.slots.now ats s.told _ c.try_from.ensures in
    let digits = rw (← c.ok.ensures.value, c.in_err-hex.was) at read in
    rw (
      c.from_residual.ensures,
      cp_is ats,
      ← c.has_only.ensures ats s,
      not-false _ c.if-not-has_only.false-raw,
      ← digits,
    ) refl

-- Some(Inline::Single(Item::Character(u32::from(hex))))
pub returns : goal.returns
unfolding ByAttributes with
returns c =
    λ ats s.
    let read = digits_read c.args.filled.slots.now ats s.told _ c.try_from.ensures in
    let digits = rw (← c.ok.ensures.value, c.in_ok-hex.was) at read in
    rw (
      c.from.ensures,
      cp_is ats,
      ← c.has_only.ensures ats s,
      not-false _ c.if-not-has_only.false-raw,
      ← digits,
    ) refl
