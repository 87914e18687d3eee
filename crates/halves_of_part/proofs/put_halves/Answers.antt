use Rattle.halves_of_part.proofs.PartLaws.{halves_pieces}
use Rattle.writer.proofs.RunLaws.{first_room, second_start, second_room, two_fit, both_wrote}
use native.Mathlib.Omega.{arith}
use mathlib.Core.Path.{refl}
use Rattle.halves_of_part.proofs.put_halves.Goals as goal

-- put_first_half(out, h, s, t, k, j)
pub put_first_half-n-requires : goal.put_first_half-n-requires
put_first_half-n-requires c =
    let args = c.args in
    let (p, is, rises, room) = c.requires in
    (p, is, rises, first_room (halves_pieces args.k args.j p args.id) args.out.now room)

-- &mut out[n..]
pub slice_bounds-put_second_half-count : goal.slice_bounds-put_second_half-count
slice_bounds-put_second_half-count c =
    let args = c.args in
    let (p, is, rises, room) = c.requires in
    second_start (halves_pieces args.k args.j p args.id) args.out.now room
    (c.put_first_half-n.ensures p is)

-- &mut out[n..]
pub slice_bounds-put_second_half-start : goal.slice_bounds-put_second_half-start
slice_bounds-put_second_half-start c =
    let args = c.args in
    let (p, is, rises, room) = c.requires in
    second_start (halves_pieces args.k args.j p args.id) args.out.now room
    (c.put_first_half-n.ensures p is)

-- put_second_half(&mut out[n..], h, s, t, k, j, id)
pub put_second_half-m-requires : goal.put_second_half-m-requires
put_second_half-m-requires c =
    let args = c.args in
    let put-first-half = c.put_first_half-n in
    let (p, is, rises, room) = c.requires in (
      p,
      is,
      rises,
      second_room (halves_pieces args.k args.j p args.id) args.out.now room
          (put-first-half.ensures p is),
    )

-- n + m
pub overflow_add-result : goal.overflow_add-result
overflow_add-result c =
    let args = c.args in
    let put-first-half = c.put_first_half-n in
    let (p, is, rises, room) = c.requires in
    omega (
      arith,
      two_fit (halves_pieces args.k args.j p args.id) args.out.now room (put-first-half.ensures p is)
          (c.put_second_half-m.ensures p is),
    )

-- n + m
pub returns : goal.returns
returns c =
    let args = c.args in
    let put-first-half = c.put_first_half-n in
    λ p is.
    both_wrote (halves_pieces args.k args.j p args.id) args.out.now (put-first-half.ensures p is)
    (c.put_second_half-m.ensures p is) refl
