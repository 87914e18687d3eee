use Rattle.granted_parts.specs.Roles.{grant_of}
use Rattle.draft.proofs.DraftLaws.{wrote_then, wrote_as}
use Rattle.granted_view.proofs.UnitLaws.{opening_long, view_pieces}
use Rattle.granted_view.proofs.put_view.Goals as goal

-- &t[..marks::UNIT_WIDTH]
pub slice_bounds-put-end : goal.slice_bounds-put-end
slice_bounds-put-end c = opening_long c.args.t.now c.requires

-- the opening, the parts, the end
pub returns : goal.returns
returns c =
    let args = c.args in
    wrote_as (view_pieces args.t.now c.requires (grant_of args.role args.positions.now))
    (wrote_then (wrote_then c.put.ensures c.put_parts.ensures) c.put-2.ensures)
