use Rattle.join_result.proofs.ResultLaws.{unit_pieces}
use Rattle.parts.proofs.CheckLaws.{table_of}
use Rattle.parts.proofs.TableLaws.{opening_long}
use Rattle.part_at.proofs.CheckedLaws.{table_passes}
use Rattle.table.proofs.WidthLaws.{bytes_known}
use Rattle.xliff.specs.Parse.{unit}
use Rattle.xliff.specs.Join.{lower_above}
use Rattle.writer.proofs.RunLaws.{first_room, second_start, second_room, two_fit, third_start, third_room, three_fit, all_wrote}
use native.Mathlib.Omega.{arith}
use mathlib.Core.Path.{ap, ◌∙◌}
use Rattle.join_result.proofs.put_join.Goals as goal

-- join_orders::falls_above(t, x, y)
pub falls_above-q-requires : goal.falls_above-q-requires
falls_above-q-requires c =
    table_passes c.args.t.now c.shared_slice_known-1.given c.requires.0

-- &t[..marks::UNIT_WIDTH]
pub slice_bounds-put-end : goal.slice_bounds-put-end
slice_bounds-put-end c =
    let t = c.args.t.now in
    let known = c.shared_slice_known-1.given in
    let (v, b, p, q, a, s, room) = c.requires in
    opening_long t (unit t) (table_of t (bytes_known t known) v)

-- writer::put(out, &t[..marks::UNIT_WIDTH])
pub put-i-requires : goal.put-i-requires
put-i-requires c =
    let args = c.args in
    let t = args.t.now in
    let known = c.shared_slice_known-1.given in
    let falls-above = c.falls_above-q in
    let order_of_two = c.order_of_two in
    let lowered = c.lowered-order in
    let (v, b, p, q, a, s, room) = c.requires in
    first_room (unit_pieces t args.x args.y b p q a s falls-above.result falls-above.ensures
    lowered.result (lowered.ensures ∙ ap (lower_above falls-above.result) order_of_two.ensures)
    (table_of t (bytes_known t known) v)) args.out.now room

-- &mut out[i..]
pub slice_bounds-put_joined_parts-count : goal.slice_bounds-put_joined_parts-count
slice_bounds-put_joined_parts-count c =
    let args = c.args in
    let t = args.t.now in
    let known = c.shared_slice_known-1.given in
    let falls-above = c.falls_above-q in
    let order_of_two = c.order_of_two in
    let lowered = c.lowered-order in
    let (v, b, p, q, a, s, room) = c.requires in
    second_start (unit_pieces t args.x args.y b p q a s falls-above.result falls-above.ensures
    lowered.result (lowered.ensures ∙ ap (lower_above falls-above.result) order_of_two.ensures)
    (table_of t (bytes_known t known) v)) args.out.now room c.put-i.ensures

-- &mut out[i..]
pub slice_bounds-put_joined_parts-start : goal.slice_bounds-put_joined_parts-start
slice_bounds-put_joined_parts-start c =
    let args = c.args in
    let t = args.t.now in
    let known = c.shared_slice_known-1.given in
    let falls-above = c.falls_above-q in
    let order_of_two = c.order_of_two in
    let lowered = c.lowered-order in
    let (v, b, p, q, a, s, room) = c.requires in
    second_start (unit_pieces t args.x args.y b p q a s falls-above.result falls-above.ensures
    lowered.result (lowered.ensures ∙ ap (lower_above falls-above.result) order_of_two.ensures)
    (table_of t (bytes_known t known) v)) args.out.now room c.put-i.ensures

-- put_joined_parts(&mut out[i..], t, x, y, q, order)
pub put_joined_parts-m-requires : goal.put_joined_parts-m-requires
put_joined_parts-m-requires c =
    let args = c.args in
    let t = args.t.now in
    let known = c.shared_slice_known-1.given in
    let falls-above = c.falls_above-q in
    let order_of_two = c.order_of_two in
    let lowered = c.lowered-order in
    let put = c.put-i in
    let (v, b, p, q, a, s, room) = c.requires in (
      v,
      b,
      p,
      q,
      a,
      s,
      second_room (unit_pieces t args.x args.y b p q a s falls-above.result falls-above.ensures
          lowered.result (lowered.ensures ∙ ap (lower_above falls-above.result) order_of_two.ensures)
          (table_of t (bytes_known t known) v)) args.out.now room put.ensures,
    )

-- i + m
pub overflow_add-l : goal.overflow_add-l
overflow_add-l c =
    let args = c.args in
    let t = args.t.now in
    let known = c.shared_slice_known-1.given in
    let falls-above = c.falls_above-q in
    let order_of_two = c.order_of_two in
    let lowered = c.lowered-order in
    let put = c.put-i in
    let (v, b, p, q, a, s, room) = c.requires in
    omega (
      arith,
      two_fit (unit_pieces t args.x args.y b p q a s falls-above.result falls-above.ensures
          lowered.result (lowered.ensures ∙ ap (lower_above falls-above.result) order_of_two.ensures)
          (table_of t (bytes_known t known) v)) args.out.now room put.ensures
          (c.put_joined_parts-m.ensures b p q a s),
    )

-- &mut out[l..]
pub slice_bounds-put-count : goal.slice_bounds-put-count
slice_bounds-put-count c =
    let args = c.args in
    let t = args.t.now in
    let known = c.shared_slice_known-1.given in
    let falls-above = c.falls_above-q in
    let order_of_two = c.order_of_two in
    let lowered = c.lowered-order in
    let put = c.put-i in
    let (v, b, p, q, a, s, room) = c.requires in
    third_start (unit_pieces t args.x args.y b p q a s falls-above.result falls-above.ensures
    lowered.result (lowered.ensures ∙ ap (lower_above falls-above.result) order_of_two.ensures)
    (table_of t (bytes_known t known) v)) args.out.now room put.ensures
    (c.put_joined_parts-m.ensures b p q a s)

-- &mut out[l..]
pub slice_bounds-put-start : goal.slice_bounds-put-start
slice_bounds-put-start c =
    let args = c.args in
    let t = args.t.now in
    let known = c.shared_slice_known-1.given in
    let falls-above = c.falls_above-q in
    let order_of_two = c.order_of_two in
    let lowered = c.lowered-order in
    let put = c.put-i in
    let (v, b, p, q, a, s, room) = c.requires in
    third_start (unit_pieces t args.x args.y b p q a s falls-above.result falls-above.ensures
    lowered.result (lowered.ensures ∙ ap (lower_above falls-above.result) order_of_two.ensures)
    (table_of t (bytes_known t known) v)) args.out.now room put.ensures
    (c.put_joined_parts-m.ensures b p q a s)

-- writer::put(&mut out[l..], &t[e..])
pub put-r-requires : goal.put-r-requires
put-r-requires c =
    let args = c.args in
    let t = args.t.now in
    let known = c.shared_slice_known-1.given in
    let falls-above = c.falls_above-q in
    let order_of_two = c.order_of_two in
    let lowered = c.lowered-order in
    let put = c.put-i in
    let put-joined-parts = c.put_joined_parts-m in
    let (v, b, p, q, a, s, room) = c.requires in
    third_room (unit_pieces t args.x args.y b p q a s falls-above.result falls-above.ensures
    lowered.result (lowered.ensures ∙ ap (lower_above falls-above.result) order_of_two.ensures)
    (table_of t (bytes_known t known) v)) args.out.now room put.ensures (put-joined-parts.ensures b p q a s)

-- l + r
pub overflow_add-result : goal.overflow_add-result
overflow_add-result c =
    let args = c.args in
    let t = args.t.now in
    let known = c.shared_slice_known-1.given in
    let falls-above = c.falls_above-q in
    let order_of_two = c.order_of_two in
    let lowered = c.lowered-order in
    let put = c.put-i in
    let put-joined-parts = c.put_joined_parts-m in
    let (v, b, p, q, a, s, room) = c.requires in
    omega (
      arith,
      three_fit (unit_pieces t args.x args.y b p q a s falls-above.result falls-above.ensures
          lowered.result (lowered.ensures ∙ ap (lower_above falls-above.result) order_of_two.ensures)
          (table_of t (bytes_known t known) v)) args.out.now room put.ensures
          (put-joined-parts.ensures b p q a s) c.put-r.ensures.0,
    )

-- l + r
pub returns : goal.returns
returns c =
    let args = c.args in
    let t = args.t.now in
    let known = c.shared_slice_known-1.given in
    let falls-above = c.falls_above-q in
    let order_of_two = c.order_of_two in
    let lowered = c.lowered-order in
    let put = c.put-i in
    let put-joined-parts = c.put_joined_parts-m in
    λ b p q a s.
    let v = c.requires.0 in
    all_wrote (unit_pieces t args.x args.y b p q a s falls-above.result falls-above.ensures
    lowered.result (lowered.ensures ∙ ap (lower_above falls-above.result) order_of_two.ensures)
    (table_of t (bytes_known t known) v)) args.out.now put.ensures (put-joined-parts.ensures b p q a s)
    c.put-r.ensures
