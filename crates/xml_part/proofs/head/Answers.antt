use Rattle.std.proofs.lemmas.Result.{err_from_is_err_and}
use Rattle.xml_attributes.proofs.SlotLaws.{all_absent}
use Rattle.xml_part.specs.Parts.{HeadSteps}
use Rattle.xml_part.proofs.HeadLaws.{head_short, head_bad, head_read}
use Rattle.xml_part.proofs.TagSteps.{part_tag, tag_bad}
use Rattle.xml_part.proofs.head.Goals as goal

-- attributes_at(text, tag, &mut slots)
pub attributes_at-requires : goal.attributes_at-requires
attributes_at-requires c = (c.requires.inside, all_absent)

-- attributes_at(..)?: the tag is at fault
pub returns-in_err-tagged : goal.returns-in_err-tagged
unfolding HeadSteps
returns-in_err-tagged c k =
    let p = err_from_is_err_and c.from_residual.result c.from_residual.ensures.1 in
    rw (p.1, p.2) (tag_bad c.args.text.now c.args.tag c.in_err-tagged.ensures _ (part_tag k))

-- in the short form: Err(Blamed { place: tag.place })
pub returns-then-tagged : goal.returns-then-tagged
returns-then-tagged c =
    head_short c.args.text.now c.args.tag c.attributes_at.new.slots c.in_ok-tagged.tagged c.in_ok-tagged.ensures
    _ _ c.if-tagged.true

-- no head: Err(Blamed { place: tag.place })
pub returns-in_default : goal.returns-in_default
returns-in_default c =
    head_bad c.args.text.now c.args.tag c.attributes_at.new.slots c.in_ok-tagged.tagged c.in_ok-tagged.ensures
    c.if-tagged.false _ _ (rw c.of.ensures at c.in_default.ensures)

-- Ok(tagged.next)
pub returns : goal.returns
returns c =
    head_read c.args.text.now c.args.tag c.attributes_at.new.slots c.in_ok-tagged.tagged c.in_ok-tagged.ensures
    c.if-tagged.false _ (rw c.of.ensures at c.in-Some.ensures) c.put_head.ensures
