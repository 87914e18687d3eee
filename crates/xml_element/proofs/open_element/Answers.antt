use Rattle.std.proofs.lemmas.Result.{err_from_is_err_and}
use Rattle.xml_attributes.proofs.SlotLaws.{all_absent}
use Rattle.xml_element.proofs.OpenLaws.{faulty_open, bad_open, nested_open, single_open, single_bad}
use Rattle.xml_element.proofs.open_element.Goals as goal

-- attributes_at(text, tag, &mut slots)
pub attributes_at-requires : goal.attributes_at-requires
attributes_at-requires c = (c.requires.inside, all_absent)

-- attributes_at(..)?: the tag is at fault
pub returns-in_err-tagged : goal.returns-in_err-tagged
returns-in_err-tagged c =
    let p = err_from_is_err_and c.from_residual.result c.from_residual.ensures.1 in
    rw (p.1, p.2) (faulty_open c.args.text.now c.args.tag _ c.in_err-tagged.ensures)

-- no inline element: Err(Blamed { place: tag.place })
pub returns-in_default : goal.returns-in_default
returns-in_default c =
    bad_open c.args.text.now c.args.tag c.attributes_at.new.slots c.in_ok-tagged.tagged c.in_ok-tagged.ensures
    (rw c.of.ensures at c.in_default.ensures)

-- single_end(..)?: the end is at fault
pub returns-in_err-behind-in-Single : goal.returns-in_err-behind-in-Single
returns-in_err-behind-in-Single c =
    let residual = c.from_residual-in_err-behind-in-Single in
    let p = err_from_is_err_and residual.result residual.ensures.1 in
    rw (p.1, p.2)
    (single_bad c.args.text.now c.args.tag c.attributes_at.new.slots c.in_ok-tagged.tagged c.in_ok-tagged.ensures
    c.in-Single.x (rw (c.of.ensures, c.in-Single.is) at c.in-Some.ensures) _ c.in_err-behind-in-Single.ensures)

-- Ok(Opened::Single(behind))
pub returns-in_ok-behind-in-Single : goal.returns-in_ok-behind-in-Single
returns-in_ok-behind-in-Single c =
    single_open c.args.text.now c.args.tag c.attributes_at.new.slots c.in_ok-tagged.tagged c.in_ok-tagged.ensures
    c.in-Single.x (rw (c.of.ensures, c.in-Single.is) at c.in-Some.ensures) _ c.in_ok-behind-in-Single.ensures
    c.put_item.ensures

-- Ok(Opened::Nested(NestedTag { .. }))
pub returns-in-Nested : goal.returns-in-Nested
returns-in-Nested c =
    nested_open c.args.text.now c.args.tag c.attributes_at.new.slots c.in_ok-tagged.tagged c.in_ok-tagged.ensures
    c.in-Nested.start c.in-Nested.end (rw (c.of.ensures, c.in-Nested.is) at c.in-Some.ensures)
