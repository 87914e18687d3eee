use Rattle.draft.proofs.DraftLaws.{wrote_then}
use Rattle.sheet_forms.proofs.put_between.Goals as goal

-- put_blanks(draft, behind)
pub returns : goal.returns
returns c =
    let behind = c.put_blanks-2 in
    let told = c.put in
    let led = c.put_blanks in
    wrote_then led.ensures (wrote_then told.ensures behind.ensures)
