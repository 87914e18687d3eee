use mathlib.Core.Path.{sym, ◌∙◌}
use Rattle.std.proofs.Common.{rules}
use Rattle.places.proofs.Places.{checked_passes}
use Rattle.table.proofs.WidthLaws.{bytes_known}
use lib.ListN.{length}
use Rattle.xliff.specs.Parse.{unit}
use Rattle.draft.proofs.AnswerLaws.{text_15, text_written, answers_15, answers_written}
use Rattle.sheet.specs.Sheet.{sheet_bytes, sheet}
use Rattle.review_sheet.proofs.sheet_passed.Goals as goal

-- sheet_rows::put_sheet(&mut measured, table)
pub put_sheet-requires : goal.put_sheet-requires
put_sheet-requires c =
    let table = c.args.table.now in
    checked_passes table (bytes_known table c.type_inv.table) c.requires

-- return Answer::Refused(15, 0)
pub returns-then-is_full : goal.returns-then-is_full
unfolding sheet
returns-then-is_full c =
    let table = c.args.table.now in
    let room = length c.args.out.now in
    let text = sheet_bytes (unit table) in
    answers_15 (sheet table room) text _ (text_15 table room text c.requires) (text_written table room text c.requires)
    _ c.begin-measured.ensures _ c.put_sheet.ensures (sym c.is_full.ensures ∙ c.if-is_full.true) (search rules)

-- sheet_rows::put_sheet(&mut written, table)
pub put_sheet-requires-2 : goal.put_sheet-requires-2
put_sheet-requires-2 c =
    let table = c.args.table.now in
    checked_passes table (bytes_known table c.type_inv.table) c.requires

-- Answer::Accepted(written.used())
pub returns : goal.returns
unfolding sheet
returns c =
    let table = c.args.table.now in
    let room = length c.args.out.now in
    let text = sheet_bytes (unit table) in
    answers_written (sheet table room) text _ (text_15 table room text c.requires)
    (text_written table room text c.requires) _ c.begin-measured.ensures _ c.put_sheet.ensures
    (sym c.is_full.ensures ∙ c.if-is_full.false) _ (search rules) _ c.begin-written.ensures _ c.put_sheet-2.ensures
    c.used.ensures (search rules)
