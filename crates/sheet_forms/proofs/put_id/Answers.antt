use Rattle.draft.proofs.DraftLaws.{wrote_as}
use Rattle.sheet_forms.proofs.FormLaws.{no_id, some_id}
use Rattle.sheet_forms.proofs.put_id.Goals as goal

-- put_blanks(draft, cells)
pub returns-then-id-eq0 : goal.returns-then-id-eq0
returns-then-id-eq0 c =
    let put = c.put_blanks in
    let if1 = c.if-id-eq0.true in
    let args = c.args in
    wrote_as (no_id args.cells if1) put.ensures

-- put_number(draft, marks::wide(id), cells)
pub returns-else-id-eq0 : goal.returns-else-id-eq0
returns-else-id-eq0 c =
    let put = c.put_number in
    let wide = c.wide in
    let if1 = c.if-id-eq0.false in
    let args = c.args in
    wrote_as (some_id args.cells wide.ensures.0 if1) put.ensures
