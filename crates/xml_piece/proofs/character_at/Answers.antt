use mathlib.Core.Path.{sym, ap, ◌∙◌}
use native.Mathlib.Omega.{arith}
use Rattle.xliff.proofs.lists.Slices.{tail_is}
use Rattle.xml_front.specs.Fronts.{told}
use Rattle.xml.proofs.FitLaws.{character_within}
use Rattle.xml_piece.proofs.PieceLaws.{character_read, character_flawed}
use Rattle.xml_piece.proofs.character_at.Goals as goal

-- behind + front.more
pub overflow_add-result : goal.overflow_add-result
overflow_add-result c =
    let args = c.args in
    let found = c.in-Ok.is in
    let front = sym (simp tail_is at c.front_character.ensures) ∙ ap told found in
    omega (arith, character_within args.text.now args.at _ _ c.requires.inside front)

-- Ok(front) => Piece::Character(..)
pub returns-in-Ok : goal.returns-in-Ok
returns-in-Ok c =
    let args = c.args in
    let found = c.in-Ok.is in
    let front = sym (simp tail_is at c.front_character.ensures) ∙ ap told found in
    character_read args.text.now args.at c.requires _ _ front

-- Err(flaw) => Piece::TextFault(flaw.place(at, text.len()))
pub returns-in-Err : goal.returns-in-Err
returns-in-Err c =
    let args = c.args in
    let front = sym (simp tail_is at c.front_character.ensures) ∙ ap told c.in-Err.is in
    rw c.place.ensures (character_flawed args.text.now args.at c.requires _ front)
