use Rattle.std.proofs.lemmas.Result.{err_from_is_err_and}
use mathlib.Core.Path.{sym, ◌∙◌}
use borrow.Author.Tests.{not-true, not-false}
use Rattle.xml.specs.Words.{codes, 'target'}
use Rattle.xml_attributes.proofs.SlotLaws.{all_absent}
use Rattle.xml_part.specs.Parts.{TargetSteps}
use Rattle.xml_part.proofs.SideLaws.{target_bad, order_bad, target_read}
use Rattle.xml_part.proofs.TagSteps.{target_tag, tag_bad}
use Rattle.xml_part.proofs.target_at.Goals as goal

-- attributes_at(text, tag, &mut slots)
pub attributes_at-requires : goal.attributes_at-requires
attributes_at-requires c = (c.requires.0.inside, all_absent)

-- attributes_at(..)?: the tag is at fault
pub returns-in_err-tagged : goal.returns-in_err-tagged
unfolding TargetSteps
returns-in_err-tagged c p =
    let e = err_from_is_err_and c.from_residual.result c.from_residual.ensures.1 in
    rw (e.1, e.2) (tag_bad c.args.text.now c.args.tag c.in_err-tagged.ensures _ (target_tag c.args.position p))

-- return Err(Blamed { place: tag.place }): of another name
pub returns-then-not-is_word : goal.returns-then-not-is_word
unfolding codes 'target'
returns-then-not-is_word c =
    target_bad c.args.text.now c.args.tag c.attributes_at.new.slots c.in_ok-tagged.tagged c.in_ok-tagged.ensures
    _ _ c.args.position (rw c.of.ensures at (sym c.is_word.ensures ∙ not-true _ c.if-not-is_word.true-raw))

-- no good order: Err(Blamed { place: tag.place })
pub returns-in_default : goal.returns-in_default
unfolding codes 'target'
returns-in_default c =
    order_bad c.args.text.now c.args.tag c.attributes_at.new.slots c.in_ok-tagged.tagged c.in_ok-tagged.ensures
    (rw c.of.ensures at (sym c.is_word.ensures ∙ not-false _ c.if-not-is_word.false-raw)) _ _ c.args.position
    c.in_default.ensures

-- side(text, tagged, b"target", builder)
pub returns : goal.returns
unfolding codes 'target'
returns c =
    target_read c.args.text.now c.args.tag c.attributes_at.new.slots c.in_ok-tagged.tagged c.in_ok-tagged.ensures
    (rw c.of.ensures at (sym c.is_word.ensures ∙ not-false _ c.if-not-is_word.false-raw)) _ c.args.position _ _
    c.in-Some.ensures c.put_order.ensures c.side.ensures
