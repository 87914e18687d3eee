use mathlib.Core.Path.{sym, ◌∙◌}
use borrow.Author.Tests.{not-true, not-false}
use Rattle.xml.specs.Words.{codes, 'unit'}
use Rattle.xml_unit.proofs.UnitLaws.{unit_ends, other_end}
use Rattle.xml_unit.proofs.unit_end.Goals as goal

-- return Err(Blamed { place: end.place })
pub returns-then-not-is_word : goal.returns-then-not-is_word
unfolding codes 'unit'
returns-then-not-is_word c =
    other_end c.args.text.now c.args.end c.args.builder.now _
    (rw c.of.ensures at (sym c.is_word.ensures ∙ not-true _ c.if-not-is_word.true-raw))

-- behind_unit(text, end.next)
pub returns : goal.returns
unfolding codes 'unit'
returns c =
    unit_ends c.args.text.now c.args.end
    (rw c.of.ensures at (sym c.is_word.ensures ∙ not-false _ c.if-not-is_word.false-raw)) c.put_closing.ensures
    c.behind_unit.result c.behind_unit.ensures
