use mathlib.Core.Path.{sym, ◌∙◌}
use Rattle.xliff.proofs.lists.Slices.{tail_is}
use Rattle.xml_piece.proofs.PieceLaws.{text_over, close_read}
use Rattle.xml_piece.proofs.piece_at.Goals as goal

-- return Piece::End
pub returns-then-text-at : goal.returns-then-text-at
returns-then-text-at c =
    let args = c.args in
    text_over args.text.now args.at c.requires c.if-text-at.true

-- "]]>": return Piece::TextFault(at)
pub returns-then-begins : goal.returns-then-begins
returns-then-begins c =
    let args = c.args in
    close_read args.text.now args.at c.if-text-at.false c.if-b-eq60.false c.if-b-eq38.false
    (sym (simp tail_is at c.begins.ensures) ∙ c.if-begins.true)

-- character_at(text, at)
pub character_at-requires : goal.character_at-requires
character_at-requires c =
    record {
      inside = c.if-text-at.false;
      no_tag = c.if-b-eq60.false;
      no_reference = c.if-b-eq38.false;
      no_close = sym (simp tail_is at c.begins.ensures) ∙ c.if-begins.false;
      no_return = c.if-b-eq13.false;
    }
