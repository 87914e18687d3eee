use Rattle.draft.proofs.DraftLaws.{wrote_as}
use Rattle.sheet_forms.proofs.FormLaws.{behind}
use Rattle.sheet_forms.proofs.put_padded.Goals as goal

-- put_between(draft, 0, bytes, missing(bytes.len(), cells))
pub returns : goal.returns
returns c =
    let between = c.put_between in
    let args = c.args in
    wrote_as (behind args.cells args.bytes.now c.saturating_sub.ensures) between.ensures
