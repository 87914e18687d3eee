use Rattle.split_result.proofs.UnitLaws.{unit_pieces}
use Rattle.parts.proofs.CheckLaws.{table_of}
use Rattle.parts.proofs.TableLaws.{opening_long}
use Rattle.table.proofs.WidthLaws.{bytes_known}
use Rattle.xliff.specs.Parse.{unit}
use Rattle.writer.proofs.RunLaws.{first_room, second_start, second_room, two_fit, third_start, third_room, three_fit, all_wrote}
use native.Mathlib.Omega.{arith}
use Rattle.split_result.proofs.put_split.Goals as goal

-- &t[..marks::UNIT_WIDTH]
pub slice_bounds-put-end : goal.slice_bounds-put-end
slice_bounds-put-end c =
    let t = c.args.t.now in
    let (n, pl, room) = c.requires in
    let (v, st) = pl in
    opening_long t (unit t) (table_of t (bytes_known t c.shared_slice_known-1.given) v)

-- writer::put(out, &t[..marks::UNIT_WIDTH])
pub put-i-requires : goal.put-i-requires
put-i-requires c =
    let args = c.args in
    let t = args.t.now in
    let (n, pl, room) = c.requires in
    let (v, st) = pl in
    let (b, p, a, e, s) = st in
    first_room (unit_pieces (unit t) n args.cuts.source args.cuts.target args.cuts.new_id b p a e t
    (table_of t (bytes_known t c.shared_slice_known-1.given) v)) args.out.now room

-- &mut out[i..]
pub slice_bounds-put_split_parts-count : goal.slice_bounds-put_split_parts-count
slice_bounds-put_split_parts-count c =
    let args = c.args in
    let t = args.t.now in
    let known = c.shared_slice_known-1.given in
    let (n, pl, room) = c.requires in
    let (v, st) = pl in
    let (b, p, a, e, s) = st in
    second_start
    (unit_pieces (unit t) n args.cuts.source args.cuts.target args.cuts.new_id b p a e t (table_of t (bytes_known t known) v))
    args.out.now room c.put-i.ensures

-- &mut out[i..]
pub slice_bounds-put_split_parts-start : goal.slice_bounds-put_split_parts-start
slice_bounds-put_split_parts-start c =
    let args = c.args in
    let t = args.t.now in
    let known = c.shared_slice_known-1.given in
    let (n, pl, room) = c.requires in
    let (v, st) = pl in
    let (b, p, a, e, s) = st in
    second_start
    (unit_pieces (unit t) n args.cuts.source args.cuts.target args.cuts.new_id b p a e t (table_of t (bytes_known t known) v))
    args.out.now room c.put-i.ensures

-- put_split_parts(&mut out[i..], t, place, cuts)
pub put_split_parts-m-requires : goal.put_split_parts-m-requires
put_split_parts-m-requires c =
    let args = c.args in
    let t = args.t.now in
    let known = c.shared_slice_known-1.given in
    let put = c.put-i in
    let (n, pl, room) = c.requires in
    let (v, st) = pl in
    let (b, p, a, e, s) = st in (
      v,
      b,
      p,
      a,
      s,
      second_room
          (unit_pieces (unit t) n args.cuts.source args.cuts.target args.cuts.new_id b p a e t (table_of t (bytes_known t known) v))
          args.out.now room put.ensures,
    )

-- i + m
pub overflow_add-l : goal.overflow_add-l
overflow_add-l c =
    let args = c.args in
    let t = args.t.now in
    let known = c.shared_slice_known-1.given in
    let put = c.put-i in
    let (n, pl, room) = c.requires in
    let (v, st) = pl in
    let (b, p, a, e, s) = st in
    omega (
      arith,
      two_fit (unit_pieces (unit t) n args.cuts.source args.cuts.target args.cuts.new_id b p a e t (table_of t (bytes_known t known) v))
          args.out.now room put.ensures (c.put_split_parts-m.ensures b p a s),
    )

-- &mut out[l..]
pub slice_bounds-put-count : goal.slice_bounds-put-count
slice_bounds-put-count c =
    let args = c.args in
    let t = args.t.now in
    let known = c.shared_slice_known-1.given in
    let put = c.put-i in
    let (n, pl, room) = c.requires in
    let (v, st) = pl in
    let (b, p, a, e, s) = st in
    third_start
    (unit_pieces (unit t) n args.cuts.source args.cuts.target args.cuts.new_id b p a e t (table_of t (bytes_known t known) v))
    args.out.now room put.ensures (c.put_split_parts-m.ensures b p a s)

-- &mut out[l..]
pub slice_bounds-put-start : goal.slice_bounds-put-start
slice_bounds-put-start c =
    let args = c.args in
    let t = args.t.now in
    let known = c.shared_slice_known-1.given in
    let put = c.put-i in
    let (n, pl, room) = c.requires in
    let (v, st) = pl in
    let (b, p, a, e, s) = st in
    third_start
    (unit_pieces (unit t) n args.cuts.source args.cuts.target args.cuts.new_id b p a e t (table_of t (bytes_known t known) v))
    args.out.now room put.ensures (c.put_split_parts-m.ensures b p a s)

-- writer::put(&mut out[l..], &t[e..])
pub put-r-requires : goal.put-r-requires
put-r-requires c =
    let args = c.args in
    let t = args.t.now in
    let known = c.shared_slice_known-1.given in
    let put = c.put-i in
    let put-split-parts = c.put_split_parts-m in
    let (n, pl, room) = c.requires in
    let (v, st) = pl in
    let (b, p, a, e, s) = st in
    third_room
    (unit_pieces (unit t) n args.cuts.source args.cuts.target args.cuts.new_id b p a e t (table_of t (bytes_known t known) v))
    args.out.now room put.ensures (put-split-parts.ensures b p a s)

-- l + r
pub overflow_add-result : goal.overflow_add-result
overflow_add-result c =
    let args = c.args in
    let t = args.t.now in
    let known = c.shared_slice_known-1.given in
    let put = c.put-i in
    let put-split-parts = c.put_split_parts-m in
    let (n, pl, room) = c.requires in
    let (v, st) = pl in
    let (b, p, a, e, s) = st in
    omega (
      arith,
      three_fit
          (unit_pieces (unit t) n args.cuts.source args.cuts.target args.cuts.new_id b p a e t (table_of t (bytes_known t known) v))
          args.out.now room put.ensures (put-split-parts.ensures b p a s)
          c.put-r.ensures.0,
    )

-- l + r
pub returns : goal.returns
returns c =
    let args = c.args in
    let t = args.t.now in
    let known = c.shared_slice_known-1.given in
    let put = c.put-i in
    let put-split-parts = c.put_split_parts-m in
    λ n pl.
    let (v, st) = pl in
    let (b, p, a, e, s) = st in
    all_wrote (unit_pieces (unit t) n args.cuts.source args.cuts.target args.cuts.new_id b p a e t (table_of t (bytes_known t known) v))
    args.out.now put.ensures (put-split-parts.ensures b p a s) c.put-r.ensures
