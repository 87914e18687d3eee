use Rattle.std.proofs.lemmas.Result.{err_from_is_err_and}
use mathlib.Core.Path.{sym, ap, ◌∙◌}
use mathlib.Core.Bool.{Bool, ◌&&◌}
use lib.Dec.{eqb}
use Rattle.xml.specs.Words.{codes, 'source'}
use Rattle.xml_attributes.proofs.SlotLaws.{all_absent}
use Rattle.xml_part.specs.Parts.{SourceSteps}
use Rattle.xml_part.proofs.SideLaws.{source_read, source_bad}
use Rattle.xml_part.proofs.TagSteps.{source_tag, tag_bad}
use Rattle.xml_part.proofs.source_at.Goals as goal

-- attributes_at(text, tag, &mut slots)
pub attributes_at-requires : goal.attributes_at-requires
attributes_at-requires c = (c.requires.inside, all_absent)

-- attributes_at(..)?: the tag is at fault
pub returns-in_err-tagged : goal.returns-in_err-tagged
unfolding SourceSteps
returns-in_err-tagged c k p =
    let e = err_from_is_err_and c.from_residual.result c.from_residual.ensures.1 in
    rw (e.1, e.2) (tag_bad c.args.text.now c.args.tag c.in_err-tagged.ensures _ (source_tag k p))

-- return side(..)
pub returns-then-is_word-tagged : goal.returns-then-is_word-tagged
unfolding codes 'source'
returns-then-is_word-tagged c =
    let count = c.in_ok-tagged.tagged.count in
    source_read c.args.text.now c.args.tag c.attributes_at.new.slots c.in_ok-tagged.tagged c.in_ok-tagged.ensures
    c.args.builder.now c.side.new.builder c.side.result
    (rw c.of.ensures at (ap (λ (b : Bool). b && eqb count 0) (sym c.is_word.ensures) ∙ c.if-is_word-tagged.true))
    c.side.ensures

-- Err(Blamed { place: tag.place }): of another name or with attributes
pub returns : goal.returns
unfolding codes 'source'
returns c =
    let count = c.in_ok-tagged.tagged.count in
    source_bad c.args.text.now c.args.tag c.attributes_at.new.slots c.in_ok-tagged.tagged c.in_ok-tagged.ensures
    _ _
    (rw c.of.ensures at (ap (λ (b : Bool). b && eqb count 0) (sym c.is_word.ensures) ∙ c.if-is_word-tagged.false))
