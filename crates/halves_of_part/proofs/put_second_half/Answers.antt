use Rattle.halves_of_part.proofs.PartLaws.{second_pieces, room_with_id}
use Rattle.writer.proofs.RunLaws.{first_room, second_start, second_room, two_fit, third_start, third_room, three_fit, all_wrote}
use native.Mathlib.Omega.{arith}
use Rattle.halves_of_part.proofs.put_second_half.Goals as goal

-- heads::put_with_id(out, h, id)
pub put_with_id-n-requires : goal.put_with_id-n-requires
put_with_id-n-requires c =
    let args = c.args in
    let k = args.k in
    let j = args.j in
    let id = args.id in
    let out = args.out.now in
    let (p, is, rises, room) = c.requires in
    room_with_id k j p id args.h.now args.s.now args.t.now out is
    (first_room (second_pieces k j p id) out room)

-- &mut out[n..]
pub slice_bounds-put_second-count : goal.slice_bounds-put_second-count
slice_bounds-put_second-count c =
    let args = c.args in
    let (p, is, rises, room) = c.requires in
    second_start (second_pieces args.k args.j p args.id) args.out.now room
    (c.put_with_id-n.ensures p.head is.0)

-- &mut out[n..]
pub slice_bounds-put_second-start : goal.slice_bounds-put_second-start
slice_bounds-put_second-start c =
    let args = c.args in
    let (p, is, rises, room) = c.requires in
    second_start (second_pieces args.k args.j p args.id) args.out.now room
    (c.put_with_id-n.ensures p.head is.0)

-- cut::put_second(&mut out[n..], s, k)
pub put_second-m-requires : goal.put_second-m-requires
put_second-m-requires c =
    let args = c.args in
    let put-with-id = c.put_with_id-n in
    let (p, is, rises, room) = c.requires in (
      p.source,
      is.1,
      second_room (second_pieces args.k args.j p args.id) args.out.now room
          (put-with-id.ensures p.head is.0),
    )

-- n + m
pub overflow_add-e : goal.overflow_add-e
overflow_add-e c =
    let args = c.args in
    let put-with-id = c.put_with_id-n in
    let (p, is, rises, room) = c.requires in
    omega (
      arith,
      two_fit (second_pieces args.k args.j p args.id) args.out.now room
          (put-with-id.ensures p.head is.0) (c.put_second-m.ensures p.source is.1),
    )

-- &mut out[e..]
pub slice_bounds-put_target_second-count : goal.slice_bounds-put_target_second-count
slice_bounds-put_target_second-count c =
    let args = c.args in
    let put-with-id = c.put_with_id-n in
    let (p, is, rises, room) = c.requires in
    third_start (second_pieces args.k args.j p args.id) args.out.now room
    (put-with-id.ensures p.head is.0) (c.put_second-m.ensures p.source is.1)

-- &mut out[e..]
pub slice_bounds-put_target_second-start : goal.slice_bounds-put_target_second-start
slice_bounds-put_target_second-start c =
    let args = c.args in
    let put-with-id = c.put_with_id-n in
    let (p, is, rises, room) = c.requires in
    third_start (second_pieces args.k args.j p args.id) args.out.now room
    (put-with-id.ensures p.head is.0) (c.put_second-m.ensures p.source is.1)

-- put_target_second(&mut out[e..], t, j)
pub put_target_second-i-requires : goal.put_target_second-i-requires
put_target_second-i-requires c =
    let args = c.args in
    let put-with-id = c.put_with_id-n in
    let put_second = c.put_second-m in
    let (p, is, rises, room) = c.requires in (
      p.target,
      is.2,
      rises,
      third_room (second_pieces args.k args.j p args.id) args.out.now room
          (put-with-id.ensures p.head is.0) (put_second.ensures p.source is.1),
    )

-- e + i
pub overflow_add-result : goal.overflow_add-result
overflow_add-result c =
    let args = c.args in
    let put-with-id = c.put_with_id-n in
    let put_second = c.put_second-m in
    let (p, is, rises, room) = c.requires in
    omega (
      arith,
      three_fit (second_pieces args.k args.j p args.id) args.out.now room
          (put-with-id.ensures p.head is.0) (put_second.ensures p.source is.1)
          (c.put_target_second-i.ensures p.target is.2).0,
    )

-- e + i
pub returns : goal.returns
returns c =
    let args = c.args in
    let put-with-id = c.put_with_id-n in
    let put_second = c.put_second-m in
    λ p is.
    all_wrote (second_pieces args.k args.j p args.id) args.out.now
    (put-with-id.ensures p.head is.0) (put_second.ensures p.source is.1)
    (c.put_target_second-i.ensures p.target is.2)
