use Rattle.std.proofs.Common.{rules}
use mathlib.Core.Path.{sym, ◌∙◌}
use mathlib.Core.List.{[], ◌++◌}
use Rattle.std.specs.Slice.Iter.{chunks_rest}
use Rattle.xliff.proofs.lists.Tests.{map-append}
use Rattle.draft.proofs.DraftLaws.{wrote_nothing, wrote_then, wrote_as}
use Rattle.sheet.specs.Column.{cell}
use Rattle.sheet_forms.proofs.FormLaws.{piece_more, pieces_whole}
use Rattle.sheet_forms.proofs.put_text.Goals as goal

-- before the first piece
pub loop-piece-init : goal.loop-piece-init
loop-piece-init c = (search rules, search rules, search rules, [], wrote_nothing, search rules)

-- put_cells(draft, piece)
pub loop-piece-preserved : goal.loop-piece-preserved
loop-piece-preserved c =
    let so-far = c.loop-piece.invariant in
    let piece = c.in-Some.piece.now in
    let steps = c.in-Some.ensures.steps in (
      search rules,
      search rules,
      steps.0 ∙ so-far.2,
      so-far.3 ++ piece,
      wrote_as (sym (map-append cell so-far.3 piece)) (wrote_then so-far.4 c.put_cells.ensures),
      piece_more so-far.3 piece (chunks_rest c.next.new.self) steps.1.0 so-far.5,
    )

-- the whole text
pub returns : goal.returns
returns c =
    let so-far = c.loop-piece.invariant in
    let rest = chunks_rest c.loop-piece.piece-iterator in
    wrote_as (pieces_whole so-far.3 rest c.in-None.ensures.steps.1.0 so-far.5) so-far.4
