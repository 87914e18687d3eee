use mathlib.Core.Path.{sym, ◌∙◌}
use borrow.Author.Tests.{not-true, not-false}
use Rattle.xml_part.proofs.OuterSteps.{no_passing, blank_on, character_bad, text_bad, fault_found}
use Rattle.xml_part.proofs.outer_at.Goals as goal

-- the loop begins
pub loop-name-init : goal.loop-name-init
loop-name-init c = no_passing c.args.text.now c.args.start c.requires

-- if !is_blank_point(c)
pub returns-then-not-is_blank_point : goal.returns-then-not-is_blank_point
returns-then-not-is_blank_point c =
    character_bad c.args.text.now c.args.start c.loop-name.at c.loop-name.invariant c.piece_at.result c.piece_at.ensures
    c.in-Character.is (sym c.is_blank_point.ensures ∙ not-true _ c.if-not-is_blank_point.true-raw)

-- at = next, behind a blank
pub loop-name-preserved : goal.loop-name-preserved
loop-name-preserved c =
    blank_on c.args.text.now c.args.start c.loop-name.at c.loop-name.invariant c.piece_at.result c.piece_at.ensures
    c.in-Character.is (sym c.is_blank_point.ensures ∙ not-false _ c.if-not-is_blank_point.false-raw)

-- Piece::Reference(_, _) | Piece::TextFault(_)
pub returns-in-Reference : goal.returns-in-Reference
returns-in-Reference c =
    text_bad c.args.text.now c.args.start c.loop-name.at c.loop-name.invariant c.piece_at.result c.piece_at.ensures
    c.in-Reference.is

-- Piece::Fault(place)
pub returns-in-Fault : goal.returns-in-Fault
returns-in-Fault c =
    fault_found c.args.text.now c.args.start c.loop-name.at c.loop-name.invariant c.piece_at.result c.piece_at.ensures
    c.in-Fault.is
