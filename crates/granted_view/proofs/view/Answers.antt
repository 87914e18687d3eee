use lib.ListN.{length}
use Rattle.outcomes.proofs.OutcomeLaws.{answers_refused, checked_none, refused_some}
use Rattle.granted_parts.specs.Roles.{grant_of}
use Rattle.xliff.specs.Encode.{encode}
use Rattle.xliff.specs.Parse.{unit}
use Rattle.xliff.specs.Check.{operation}
use Rattle.draft.proofs.AnswerLaws.{text_refused}
use Rattle.grants.specs.View.{view_unit, view}
use Rattle.granted_view.proofs.view.Goals as goal

-- return checked
pub returns-in_default : goal.returns-in_default
unfolding view operation
returns-in_default c =
    let table = c.args.table.now in
    let out = c.args.out.now in
    let text = encode (view_unit (grant_of c.args.role c.args.positions.now) (unit table)) in
    let refused = refused_some table _ _ (rw c.in_default.is at c.check-checked.ensures) in
    rw c.in_default.is (answers_refused _ _ _ out (text_refused table (length out) text _ _ refused))

-- view_passed(role, positions, table, out)
pub view_passed-requires : goal.view_passed-requires
view_passed-requires c =
    let checked = c.check-checked in
    checked_none c.args.table.now checked.result _ checked.ensures c.in-Accepted.is
