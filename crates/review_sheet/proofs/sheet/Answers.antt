use lib.ListN.{length}
use Rattle.outcomes.proofs.OutcomeLaws.{answers_refused, checked_none, refused_some}
use Rattle.xliff.specs.Parse.{unit}
use Rattle.draft.proofs.AnswerLaws.{text_refused}
use Rattle.sheet.specs.Sheet.{sheet_bytes, sheet}
use Rattle.review_sheet.proofs.sheet.Goals as goal

-- return checked
pub returns-in_default : goal.returns-in_default
unfolding sheet
returns-in_default c =
    let table = c.args.table.now in
    let out = c.args.out.now in
    let refused = refused_some table _ _ (rw c.in_default.is at c.check-checked.ensures) in
    rw c.in_default.is
    (answers_refused _ _ _ out (text_refused table (length out) (sheet_bytes (unit table)) _ _ refused))

-- sheet_passed(table, out)
pub sheet_passed-requires : goal.sheet_passed-requires
sheet_passed-requires c =
    let checked = c.check-checked in
    checked_none c.args.table.now checked.result _ checked.ensures c.in-Accepted.is
