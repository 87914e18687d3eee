use Rattle.views.specs.Views.{items_of_markers}
use Rattle.source_match.proofs.IdLaws.{bad_target_is}
use Rattle.source_match.proofs.LinkedItems.is_bad_in_target.Goals as goal

-- .. | (code & self.copies_none(x))
pub returns : goal.returns
returns c =
    let args = c.args in
    let matches-by = c.matches_by-m in
    let is_inline_code = c.is_code-code in
    bad_target_is args.x (items_of_markers args.self.t.now args.self.sequence.markers.now) matches-by.result is_inline_code.result
    c.copies_none.result matches-by.ensures is_inline_code.ensures c.copies_none.ensures
