use mathlib.Core.Path.{sym, ◌∙◌}
use Rattle.xliff.proofs.lists.Slices.{tail_is}
use Rattle.xml_piece.proofs.PieceLaws.{two_read, one_read}
use Rattle.xml_piece.proofs.line_end_at.Goals as goal

-- return Piece::Character(10, next)
pub returns-then-begins : goal.returns-then-begins
returns-then-begins c =
    let args = c.args in
    two_read args.text.now args.at c.requires.0 c.requires.1
    (sym (simp tail_is at c.begins.ensures) ∙ c.if-begins.true)

-- Piece::Character(10, behind)
pub returns : goal.returns
returns c =
    let args = c.args in
    one_read args.text.now args.at c.requires.0 c.requires.1
    (sym (simp tail_is at c.begins.ensures) ∙ c.if-begins.false)
