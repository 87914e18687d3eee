use Rattle.std.proofs.lemmas.Result.{err_from_is_err_and}
use mathlib.Core.Path.{sym, ap, ◌∙◌}
use borrow.Author.Tests.{not-true, not-false}
use Rattle.xliff.specs.Bytes.{equal}
use Rattle.xml_part.proofs.SideLaws.{short_side, side_ends, side_other, side_at_fault}
use Rattle.xml_part.proofs.side.Goals as goal

-- return Ok(tagged.next), in the short form
pub returns-then-tagged : goal.returns-then-tagged
returns-then-tagged c =
    short_side c.args.text.now c.args.tagged.next c.args.name.now c.requires c.args.builder.now c.if-tagged.true

-- content(..)?: a place at fault
pub returns-in_err-end : goal.returns-in_err-end
returns-in_err-end c =
    let p = err_from_is_err_and c.from_residual.result c.from_residual.ensures.1 in
    rw (p.1, p.2)
    (side_at_fault c.args.text.now c.args.tagged.next c.args.name.now c.if-tagged.false c.args.builder.now _ _
    c.in_err-end.ensures)

-- return Err(Blamed { place: end.place }): the end tag of another name
pub returns-then-not-is_word : goal.returns-then-not-is_word
returns-then-not-is_word c =
    side_other c.args.text.now c.args.tagged.next c.args.name.now c.if-tagged.false c.in_ok-end.end c.in_ok-end.ensures
    (rw c.of.ensures at (sym c.is_word.ensures ∙ not-true _ c.if-not-is_word.true-raw))

-- Ok(end.next)
pub returns : goal.returns
returns c =
    side_ends c.args.text.now c.args.tagged.next c.args.name.now c.if-tagged.false c.in_ok-end.end c.in_ok-end.ensures
    (rw c.of.ensures at (sym c.is_word.ensures ∙ not-false _ c.if-not-is_word.false-raw))
