use Rattle.halves_of_part.proofs.PartLaws.{first_pieces}
use Rattle.writer.proofs.RunLaws.{first_room, second_start, second_room, two_fit, third_start, third_room, three_fit, all_wrote}
use native.Mathlib.Omega.{arith}
use Rattle.halves_of_part.proofs.put_first_half.Goals as goal

-- writer::put(out, h)
pub put-n-requires : goal.put-n-requires
put-n-requires c =
    let args = c.args in
    let (p, is, rises, room) = c.requires in
    first_room (first_pieces args.k args.j p args.h.now args.s.now args.t.now is) args.out.now
    room

-- &mut out[n..]
pub slice_bounds-put_first-count : goal.slice_bounds-put_first-count
slice_bounds-put_first-count c =
    let args = c.args in
    let (p, is, rises, room) = c.requires in
    second_start (first_pieces args.k args.j p args.h.now args.s.now args.t.now is)
    args.out.now room c.put-n.ensures

-- &mut out[n..]
pub slice_bounds-put_first-start : goal.slice_bounds-put_first-start
slice_bounds-put_first-start c =
    let args = c.args in
    let (p, is, rises, room) = c.requires in
    second_start (first_pieces args.k args.j p args.h.now args.s.now args.t.now is)
    args.out.now room c.put-n.ensures

-- cut::put_first(&mut out[n..], s, k)
pub put_first-m-requires : goal.put_first-m-requires
put_first-m-requires c =
    let args = c.args in
    let put = c.put-n in
    let (p, is, rises, room) = c.requires in (
      p.source,
      is.1,
      second_room (first_pieces args.k args.j p args.h.now args.s.now args.t.now is)
          args.out.now room put.ensures,
    )

-- n + m
pub overflow_add-e : goal.overflow_add-e
overflow_add-e c =
    let args = c.args in
    let put = c.put-n in
    let (p, is, rises, room) = c.requires in
    omega (
      arith,
      two_fit (first_pieces args.k args.j p args.h.now args.s.now args.t.now is) args.out.now
          room put.ensures (c.put_first-m.ensures p.source is.1),
    )

-- &mut out[e..]
pub slice_bounds-put_target_first-count : goal.slice_bounds-put_target_first-count
slice_bounds-put_target_first-count c =
    let args = c.args in
    let put = c.put-n in
    let (p, is, rises, room) = c.requires in
    third_start (first_pieces args.k args.j p args.h.now args.s.now args.t.now is)
    args.out.now room put.ensures (c.put_first-m.ensures p.source is.1)

-- &mut out[e..]
pub slice_bounds-put_target_first-start : goal.slice_bounds-put_target_first-start
slice_bounds-put_target_first-start c =
    let args = c.args in
    let put = c.put-n in
    let (p, is, rises, room) = c.requires in
    third_start (first_pieces args.k args.j p args.h.now args.s.now args.t.now is)
    args.out.now room put.ensures (c.put_first-m.ensures p.source is.1)

-- put_target_first(&mut out[e..], t, j)
pub put_target_first-i-requires : goal.put_target_first-i-requires
put_target_first-i-requires c =
    let args = c.args in
    let put = c.put-n in
    let put_first = c.put_first-m in
    let (p, is, rises, room) = c.requires in (
      p.target,
      is.2,
      rises,
      third_room (first_pieces args.k args.j p args.h.now args.s.now args.t.now is)
          args.out.now room put.ensures (put_first.ensures p.source is.1),
    )

-- e + i
pub overflow_add-result : goal.overflow_add-result
overflow_add-result c =
    let args = c.args in
    let put = c.put-n in
    let put_first = c.put_first-m in
    let (p, is, rises, room) = c.requires in
    omega (
      arith,
      three_fit (first_pieces args.k args.j p args.h.now args.s.now args.t.now is)
          args.out.now room put.ensures (put_first.ensures p.source is.1)
          (c.put_target_first-i.ensures p.target is.2).0,
    )

-- e + i
pub returns : goal.returns
returns c =
    let args = c.args in
    let put = c.put-n in
    let put_first = c.put_first-m in
    λ p is.
    all_wrote (first_pieces args.k args.j p args.h.now args.s.now args.t.now is) args.out.now
    put.ensures (put_first.ensures p.source is.1)
    (c.put_target_first-i.ensures p.target is.2)
