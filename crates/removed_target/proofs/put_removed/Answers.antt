use Rattle.removed_target.proofs.RemovedLaws.{table_pieces_without, removed_room}
use Rattle.writer.proofs.RunLaws.{second_start, second_room, two_fit, both_wrote}
use native.Mathlib.Omega.{arith}
use mathlib.Core.Path.{refl}
use Rattle.removed_target.proofs.put_removed.Goals as goal

-- &mut out[n..]
pub slice_bounds-put-count : goal.slice_bounds-put-count
slice_bounds-put-count c =
    let args = c.args in
    let t = args.t.now in
    let place = args.place in
    let out = args.out.now in
    let (st, room) = c.requires in
    let (b, p, a, s) = st in
    second_start (table_pieces_without t b p a place s) out (removed_room t b p a place s out room)
    (c.put_to_source-n.ensures b p a s)

-- &mut out[n..]
pub slice_bounds-put-start : goal.slice_bounds-put-start
slice_bounds-put-start c =
    let args = c.args in
    let t = args.t.now in
    let place = args.place in
    let out = args.out.now in
    let (st, room) = c.requires in
    let (b, p, a, s) = st in
    second_start (table_pieces_without t b p a place s) out (removed_room t b p a place s out room)
    (c.put_to_source-n.ensures b p a s)

-- writer::put(&mut out[n..], &t[e..])
pub put-m-requires : goal.put-m-requires
put-m-requires c =
    let args = c.args in
    let t = args.t.now in
    let place = args.place in
    let out = args.out.now in
    let put-to-source = c.put_to_source-n in
    let (st, room) = c.requires in
    let (b, p, a, s) = st in
    second_room (table_pieces_without t b p a place s) out (removed_room t b p a place s out room)
    (put-to-source.ensures b p a s)

-- n + m
pub overflow_add-result : goal.overflow_add-result
overflow_add-result c =
    let args = c.args in
    let t = args.t.now in
    let place = args.place in
    let out = args.out.now in
    let put-to-source = c.put_to_source-n in
    let (st, room) = c.requires in
    let (b, p, a, s) = st in
    omega (
      arith,
      two_fit (table_pieces_without t b p a place s) out (removed_room t b p a place s out room)
          (put-to-source.ensures b p a s) c.put-m.ensures,
    )

-- n + m
pub returns : goal.returns
returns c =
    let args = c.args in
    let put-to-source = c.put_to_source-n in
    λ b p a s.
    both_wrote (table_pieces_without args.t.now b p a args.place s) args.out.now
    (put-to-source.ensures b p a s) c.put-m.ensures refl
