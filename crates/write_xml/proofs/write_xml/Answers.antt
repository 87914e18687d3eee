use lib.ListN.{length}
use Rattle.outcomes.proofs.OutcomeLaws.{answers_refused, checked_none, refused_some}
use Rattle.write_xml.proofs.ChainLaws.{refused_table}
use Rattle.write_xml.proofs.write_xml.Goals as goal

-- return checked
pub returns-in_default : goal.returns-in_default
returns-in_default c =
    let table = c.args.table.now in
    let out = c.args.out.now in
    let refused = refused_some table _ _ (rw c.in_default.is at c.check-checked.ensures) in
    rw c.in_default.is (answers_refused _ _ _ out (refused_table table (length out) _ _ refused))

-- write_passed(table, out)
pub write_passed-requires : goal.write_passed-requires
write_passed-requires c =
    let checked = c.check-checked in
    checked_none c.args.table.now checked.result _ checked.ensures c.in-Accepted.is
