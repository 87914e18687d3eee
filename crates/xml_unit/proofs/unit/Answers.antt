use Rattle.std.proofs.lemmas.Result.{err_from_is_err_and}
use mathlib.Core.Path.{sym, ◌∙◌}
use borrow.Author.Tests.{not-true, not-false}
use Rattle.xml.specs.Words.{codes, 'unit'}
use Rattle.xml.specs.Elements.{unit_due}
use Rattle.xml_attributes.proofs.SlotLaws.{all_absent}
use Rattle.xml_part.proofs.TagSteps.{unit_tag, tag_bad}
use Rattle.xml_unit.proofs.UnitLaws.{another_name, bad_opening, short_unit, long_unit, opening_collected}
use Rattle.xml_unit.proofs.unit.Goals as goal

-- attributes_at(text, tag, &mut slots)
pub attributes_at-requires : goal.attributes_at-requires
attributes_at-requires c = (c.requires.0.inside, all_absent)

-- attributes_at(..)?: the tag is at fault
pub returns-in_err-tagged : goal.returns-in_err-tagged
returns-in_err-tagged c =
    let p = err_from_is_err_and c.from_residual.result c.from_residual.ensures.1 in
    rw (p.1, p.2) (tag_bad c.args.text.now c.args.tag c.in_err-tagged.ensures unit_due unit_tag)

-- return Err(Blamed { place: tag.place }): of another name
pub returns-then-not-is_word : goal.returns-then-not-is_word
unfolding codes 'unit'
returns-then-not-is_word c =
    another_name c.args.text.now c.args.tag c.attributes_at.new.slots c.in_ok-tagged.tagged c.in_ok-tagged.ensures
    (rw c.of.ensures at (sym c.is_word.ensures ∙ not-true _ c.if-not-is_word.true-raw))

-- no opening: Err(Blamed { place: tag.place })
pub returns-in_default : goal.returns-in_default
unfolding codes 'unit'
returns-in_default c =
    bad_opening c.args.text.now c.args.tag c.attributes_at.new.slots c.in_ok-tagged.tagged c.in_ok-tagged.ensures
    (rw c.of.ensures at (sym c.is_word.ensures ∙ not-false _ c.if-not-is_word.false-raw)) c.in_default.ensures

-- parts(text, tagged.next, builder)
pub parts-requires : goal.parts-requires
parts-requires c =
    (c.in_ok-tagged.ensures.inside, opening_collected c.in-Some.letter c.requires.1 c.put_opening.ensures)

-- return behind_unit(text, tagged.next), in the short form
pub returns-then-tagged : goal.returns-then-tagged
unfolding codes 'unit'
returns-then-tagged c =
    short_unit c.args.text.now c.args.tag c.attributes_at.new.slots c.in_ok-tagged.tagged c.in_ok-tagged.ensures
    (rw c.of.ensures at (sym c.is_word.ensures ∙ not-false _ c.if-not-is_word.false-raw)) c.in-Some.letter
    c.in-Some.ensures c.put_opening.ensures c.behind_unit.result c.if-tagged.true
    c.put_closing.ensures c.behind_unit.ensures

pub returns : goal.returns
unfolding codes 'unit'
returns c =
    long_unit c.args.text.now c.args.tag c.attributes_at.new.slots c.in_ok-tagged.tagged c.in_ok-tagged.ensures
    (rw c.of.ensures at (sym c.is_word.ensures ∙ not-false _ c.if-not-is_word.false-raw)) c.in-Some.letter
    c.in-Some.ensures c.put_opening.ensures c.parts.new.builder c.parts.result c.if-tagged.false
    c.parts.ensures
