use mathlib.Core.Path.{sym, ◌∙◌}
use Rattle.std.proofs.Common.{rules}
use lib.ListN.{length}
use Rattle.xliff.specs.Encode.{encode}
use Rattle.xliff.specs.Parse.{unit}
use Rattle.xliff.specs.Check.{operation}
use Rattle.places.proofs.Places.{checked_passes}
use Rattle.table.proofs.WidthLaws.{bytes_known}
use Rattle.draft.proofs.AnswerLaws.{text_15, text_written, answers_15, answers_written}
use Rattle.grants.specs.View.{view_unit, view}
use Rattle.granted_parts.specs.Roles.{grant_of}
use Rattle.granted_view.proofs.view_passed.Goals as goal

-- put_view(&mut measured, table, role, positions)
pub put_view-requires : goal.put_view-requires
put_view-requires c =
    let table = c.args.table.now in
    checked_passes table (bytes_known table c.type_inv.table) c.requires

-- return Answer::Refused(15, 0)
pub returns-then-is_full : goal.returns-then-is_full
unfolding view operation
returns-then-is_full c =
    let table = c.args.table.now in
    let room = length c.args.out.now in
    let grant = grant_of c.args.role c.args.positions.now in
    let text = encode (view_unit grant (unit table)) in
    answers_15 (view table grant room) text _ (text_15 table room text c.requires)
    (text_written table room text c.requires) _ c.begin-measured.ensures _ c.put_view.ensures
    (sym c.is_full.ensures ∙ c.if-is_full.true) (search rules)

-- put_view(&mut written, table, role, positions)
pub put_view-requires-2 : goal.put_view-requires-2
put_view-requires-2 c =
    let table = c.args.table.now in
    checked_passes table (bytes_known table c.type_inv.table) c.requires

-- Answer::Accepted(written.used())
pub returns : goal.returns
unfolding view operation
returns c =
    let table = c.args.table.now in
    let room = length c.args.out.now in
    let grant = grant_of c.args.role c.args.positions.now in
    let text = encode (view_unit grant (unit table)) in
    answers_written (view table grant room) text _ (text_15 table room text c.requires)
    (text_written table room text c.requires) _ c.begin-measured.ensures _ c.put_view.ensures
    (sym c.is_full.ensures ∙ c.if-is_full.false) _ (search rules) _ c.begin-written.ensures _ c.put_view-2.ensures
    c.used.ensures (search rules)
