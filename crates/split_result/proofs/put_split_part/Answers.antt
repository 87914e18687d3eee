use Rattle.split_result.proofs.PlaceLaws.{part_is, part_rises}
use Rattle.part_at.proofs.HoldLaws.{target_ends}
use Rattle.table.proofs.WidthLaws.{bytes_known}
use native.Mathlib.Omega.{arith}
use Rattle.split_result.proofs.put_split_part.Goals as goal

-- &t[g..e]
pub slice_bounds-put_halves-count-3 : goal.slice_bounds-put_halves-count-3
slice_bounds-put_halves-count-3 c =
    let args = c.args in
    let t = args.t.now in
    let known = c.shared_slice_known-1.given in
    let (v, b, p, a, s, room) = c.requires in
    (target_ends t (bytes_known t known) b p a args.place s).0

-- &t[g..e]
pub slice_bounds-put_halves-start-3 : goal.slice_bounds-put_halves-start-3
slice_bounds-put_halves-start-3 c =
    let args = c.args in
    let t = args.t.now in
    let known = c.shared_slice_known-1.given in
    let (v, b, p, a, s, room) = c.requires in
    let e = target_ends t (bytes_known t known) b p a args.place s in
    omega (arith, e.0, e.1)

-- halves_of_part::put_halves(out, &t[h..s], &t[s..g], &t[g..e], cuts.source, cuts.target, cuts.new_id)
pub put_halves-requires : goal.put_halves-requires
put_halves-requires c =
    let args = c.args in
    let t = args.t.now in
    let place = args.place in
    let known = c.shared_slice_known-1.given in
    let (v, b, p, a, s, room) = c.requires in
    (p, part_is t known v b p a place s, part_rises t known v b p a place s, room)

-- halves_of_part::put_halves(out, &t[h..s], &t[s..g], &t[g..e], cuts.source, cuts.target, cuts.new_id)
pub returns : goal.returns
returns c =
    let known = c.shared_slice_known-1.given in
    λ b p a s.
    c.put_halves.ensures p
    (part_is c.args.t.now known c.requires.0 b p a c.args.place s)
