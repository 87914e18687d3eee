use Rattle.join_result.proofs.ResultLaws.{two_parts, parts_pieces}
use Rattle.parts.proofs.PlaceLaws.{before_in, behind_in}
use Rattle.parts.proofs.OrderLaws.{parts_room}
use Rattle.parts.specs.Parts.{moved}
use Rattle.part_at.proofs.SliceLaws.{end_within}
use Rattle.xliff.proofs.unit.Result.{small_table}
use Rattle.writer.specs.Pieces.{rest, back}
use Rattle.writer.proofs.RunLaws.{first_room, second_start, second_room, two_fit, third_start, third_room, three_fit, all_wrote}
use native.Mathlib.Omega.{arith}
use lib.ListN.{length, take, drop}
use mathlib.Core.Bool.{false}
use mathlib.Core.List.{[], ◌∷◌, ◌++◌}
use Prim.Native.Nat.{◌+◌, ◌-◌}
use Rattle.join_result.proofs.put_joined_parts.Goals as goal

-- parts::put_parts(out, &t[marks::UNIT_WIDTH..h], q, false)
pub put_parts-n-requires : goal.put_parts-n-requires
put_parts-n-requires c =
    let args = c.args in
    let q₀ = args.q in
    let x = args.x in
    let t = args.t.now in
    let out = args.out.now in
    let (v, b, p, q, a, s, room) = c.requires in
    parts_room (moved false q₀) (take (x.head - 3) (drop 3 t)) b
    (before_in t c.shared_slice_known-1.given v b p (q ∷ a) x s.first) out
    (first_room (parts_pieces q₀ args.order b p q a) out room)

-- &mut out[n..]
pub slice_bounds-put_joined_part-count : goal.slice_bounds-put_joined_part-count
slice_bounds-put_joined_part-count c =
    let args = c.args in
    let known = c.shared_slice_known-1.given in
    let (v, b, p, q, a, s, room) = c.requires in
    second_start (parts_pieces args.q args.order b p q a) args.out.now room
    (c.put_parts-n.ensures b (before_in args.t.now known v b p (q ∷ a) args.x s.first))

-- &mut out[n..]
pub slice_bounds-put_joined_part-start : goal.slice_bounds-put_joined_part-start
slice_bounds-put_joined_part-start c =
    let args = c.args in
    let known = c.shared_slice_known-1.given in
    let (v, b, p, q, a, s, room) = c.requires in
    second_start (parts_pieces args.q args.order b p q a) args.out.now room
    (c.put_parts-n.ensures b (before_in args.t.now known v b p (q ∷ a) args.x s.first))

-- joined_part::put_joined_part(&mut out[n..], t, x, y, order)
pub put_joined_part-m-requires : goal.put_joined_part-m-requires
put_joined_part-m-requires c =
    let args = c.args in
    let t = args.t.now in
    let x = args.x in
    let known = c.shared_slice_known-1.given in
    let put-parts = c.put_parts-n in
    let (v, b, p, q, a, s, room) = c.requires in (
      two_parts t x args.y b p q a s,
      small_table t v,
      second_room (parts_pieces args.q args.order b p q a) args.out.now room
          (put-parts.ensures b (before_in t known v b p (q ∷ a) x s.first)),
    )

-- n + m
pub overflow_add-k : goal.overflow_add-k
overflow_add-k c =
    let args = c.args in
    let t = args.t.now in
    let x = args.x in
    let known = c.shared_slice_known-1.given in
    let put-parts = c.put_parts-n in
    let (v, b, p, q, a, s, room) = c.requires in
    omega (
      arith,
      two_fit (parts_pieces args.q args.order b p q a) args.out.now room
          (put-parts.ensures b (before_in t known v b p (q ∷ a) x s.first))
          (c.put_joined_part-m.ensures (two_parts t x args.y b p q a s)),
    )

-- &mut out[k..]
pub slice_bounds-put_parts-count-2 : goal.slice_bounds-put_parts-count-2
slice_bounds-put_parts-count-2 c =
    let args = c.args in
    let t = args.t.now in
    let x = args.x in
    let known = c.shared_slice_known-1.given in
    let put-parts = c.put_parts-n in
    let (v, b, p, q, a, s, room) = c.requires in
    third_start (parts_pieces args.q args.order b p q a) args.out.now room
    (put-parts.ensures b (before_in t known v b p (q ∷ a) x s.first))
    (c.put_joined_part-m.ensures (two_parts t x args.y b p q a s))

-- &mut out[k..]
pub slice_bounds-put_parts-start-2 : goal.slice_bounds-put_parts-start-2
slice_bounds-put_parts-start-2 c =
    let args = c.args in
    let t = args.t.now in
    let x = args.x in
    let known = c.shared_slice_known-1.given in
    let put-parts = c.put_parts-n in
    let (v, b, p, q, a, s, room) = c.requires in
    third_start (parts_pieces args.q args.order b p q a) args.out.now room
    (put-parts.ensures b (before_in t known v b p (q ∷ a) x s.first))
    (c.put_joined_part-m.ensures (two_parts t x args.y b p q a s))

-- &t[f..e]
pub slice_bounds-put_parts-count-3 : goal.slice_bounds-put_parts-count-3
slice_bounds-put_parts-count-3 c =
    let (v, b, p, q, a, s, room) = c.requires in
    omega (arith, end_within c.args.t.now (b ++ (p ∷ [])) q a c.args.y s.second)

-- &t[f..e]
pub slice_bounds-put_parts-start-3 : goal.slice_bounds-put_parts-start-3
slice_bounds-put_parts-start-3 c =
    let (v, b, p, q, a, s, room) = c.requires in
    omega (arith, end_within c.args.t.now (b ++ (p ∷ [])) q a c.args.y s.second)

-- parts::put_parts(&mut out[k..], &t[f..e], q, false)
pub put_parts-i-requires : goal.put_parts-i-requires
put_parts-i-requires c =
    let known = c.shared_slice_known-1.given in
    let put-parts = c.put_parts-n in
    let put-joined-part = c.put_joined_part-m in
    let (v, b, p, q, a, s, room) = c.requires in
    parts_room (moved false c.args.q)
    (take (length c.args.t.now - 2 - c.args.y.end)
    (drop c.args.y.end c.args.t.now)) a
    (behind_in c.args.t.now known v (b ++ (p ∷ [])) q a c.args.y s.second)
    (rest (put-parts.result + put-joined-part.result)
    (back put-parts.result put-parts.new.out put-joined-part.new.out))
    (third_room (parts_pieces c.args.q c.args.order b p q a) c.args.out.now room
    (put-parts.ensures b (before_in c.args.t.now known v b p (q ∷ a) c.args.x s.first))
    (put-joined-part.ensures (two_parts c.args.t.now c.args.x c.args.y b p q a s)))

-- k + i
pub overflow_add-result : goal.overflow_add-result
overflow_add-result c =
    let args = c.args in
    let t = args.t.now in
    let x = args.x in
    let y = args.y in
    let known = c.shared_slice_known-1.given in
    let put-parts = c.put_parts-n in
    let put-joined-part = c.put_joined_part-m in
    let (v, b, p, q, a, s, room) = c.requires in
    omega (
      arith,
      three_fit (parts_pieces args.q args.order b p q a) args.out.now room
          (put-parts.ensures b (before_in t known v b p (q ∷ a) x s.first))
          (put-joined-part.ensures (two_parts t x y b p q a s))
          (c.put_parts-i.ensures a (behind_in t known v (b ++ (p ∷ [])) q a y s.second)).0,
    )

-- k + i
pub returns : goal.returns
returns c =
    let args = c.args in
    let t = args.t.now in
    let x = args.x in
    let y = args.y in
    let known = c.shared_slice_known-1.given in
    let put-parts = c.put_parts-n in
    let put-joined-part = c.put_joined_part-m in
    λ b p q a s.
    let v = c.requires.0 in
    all_wrote (parts_pieces args.q args.order b p q a) args.out.now
    (put-parts.ensures b (before_in t known v b p (q ∷ a) x s.first))
    (put-joined-part.ensures (two_parts t x y b p q a s))
    (c.put_parts-i.ensures a (behind_in t known v (b ++ (p ∷ [])) q a y s.second))
