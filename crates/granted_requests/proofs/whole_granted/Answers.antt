use mathlib.Core.Path.{sym, ◌∙◌}
use borrow.Author.Tests.{not-true, not-false}
use Rattle.xliff.specs.Parse.{unit}
use Rattle.xliff.proofs.unit.Result.{small_table}
use Rattle.part_at.proofs.CheckedLaws.{table_passes}
use Rattle.granted_parts.specs.Roles.{grant_of}
use Rattle.granted_requests.proofs.GrantedLaws.{by_side, by_missing, by_halves}
use Rattle.granted_requests.proofs.whole_granted.Goals as goal

-- if !((side == b'S') | (side == b'T')) { return false; }
pub returns-then-not-side : goal.returns-then-not-side
returns-then-not-side c =
    let args = c.args in
    let grant = grant_of args.grant.role args.grant.positions.now in
    let parts = (unit args.table.now).parts in
    sym (by_side grant parts args.side args.id (not-true _ c.if-not-side.true-raw))

-- whole_pair::find(table, side, id)
pub find-requires : goal.find-requires
find-requires c =
    let table = c.args.table.now in
    (table_passes table c.type_inv.table c.requires, small_table table c.requires)

-- if whole_pair::find(table, side, id).is_none() { return false; }
pub returns-then-is_none : goal.returns-then-is_none
returns-then-is_none c =
    let find = c.find in
    let sided = not-false _ c.if-not-side.false-raw in
    let args = c.args in
    let grant = grant_of args.grant.role args.grant.positions.now in
    let parts = (unit args.table.now).parts in
    sym
    (by_missing grant parts args.side args.id sided find.result find.ensures
    c.if-is_none.ensures)

-- granted_halves::halves_within(table, grant, side, id)
pub halves_within-requires : goal.halves_within-requires
halves_within-requires c =
    let known = c.type_inv.table in
    table_passes c.args.table.now known c.requires

pub returns : goal.returns
returns c =
    let find = c.find in
    let sided = not-false _ c.if-not-side.false-raw in
    let args = c.args in
    let grant = grant_of args.grant.role args.grant.positions.now in
    let parts = (unit args.table.now).parts in
    c.halves_within.ensures
    ∙ sym
    (by_halves grant parts args.side args.id sided find.result find.ensures
    c.if-is_none.ensures)
