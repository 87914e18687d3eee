use Prim.Native.Nat.{◌+◌}
use mathlib.Core.Path.{sym, ap, ◌∙◌}
use native.Mathlib.Omega.{arith}
use Rattle.xliff.proofs.lists.Slices.{tail_is}
use Rattle.xml_front.specs.Fronts.{told}
use Rattle.xml_piece.proofs.CodePointLaws.{reference_within}
use Rattle.xml_piece.proofs.PieceLaws.{reference_read, reference_flawed}
use borrow.Author.Rules.{rules}
use Rattle.xml_piece.proofs.reference_at.Goals as goal

-- behind + front.more
pub overflow_add-result : goal.overflow_add-result
overflow_add-result c =
    let args = c.args in
    let found = c.in-Ok.is in
    let front = sym (simp tail_is at c.front_reference.ensures) ∙ ap told found in
    omega (arith, reference_within args.text.now (args.at + 1) _ _ (search rules) front)

-- Ok(front) => Piece::Reference(..)
pub returns-in-Ok : goal.returns-in-Ok
returns-in-Ok c =
    let args = c.args in
    let found = c.in-Ok.is in
    let front = sym (simp tail_is at c.front_reference.ensures) ∙ ap told found in
    reference_read args.text.now args.at c.requires.0 c.requires.1 _ _ front

-- Err(flaw) => Piece::TextFault(flaw.place(at, text.len()))
pub returns-in-Err : goal.returns-in-Err
returns-in-Err c =
    let args = c.args in
    let front = sym (simp tail_is at c.front_reference.ensures) ∙ ap told c.in-Err.is in
    rw c.place.ensures (reference_flawed args.text.now args.at c.requires.0 c.requires.1 _ front)
