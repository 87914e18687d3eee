use borrow.Author.Tests.{eq-eqb}
use Rattle.views.specs.Views.{items_of_markers}
use Rattle.source_match.proofs.IdLaws.{copies_none_is}
use Rattle.source_match.proofs.LinkedItems.copies_none.Goals as goal

-- return false
pub returns-then-x-eq0 : goal.returns-then-x-eq0
returns-then-x-eq0 c = simp (eq-eqb _ _ c.if-x-eq0.true)

-- !self.matches_by(x.of, x).copies
pub returns : goal.returns
returns c =
    let args = c.args in
    let matches-by = c.matches_by in
    copies_none_is args.x (items_of_markers args.self.t.now args.self.sequence.markers.now) matches-by.result
    c.if-x-eq0.false matches-by.ensures
