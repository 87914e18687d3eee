use native.Mathlib.Omega.{arith}
use Rattle.orders.proofs.WalkLaws.{few_parts}
use Rattle.xliff.proofs.unit.Result.{small_table}
use Rattle.part_at.proofs.CheckedLaws.{table_passes, placed_checked}
use Rattle.split_limits.proofs.SizeLaws.{few_added, too_large_at}
use Rattle.split_limits.proofs.is_too_large.Goals as goal

-- added(t, place, cuts)
pub added-more-requires : goal.added-more-requires
added-more-requires c =
    let args = c.args in
    placed_checked args.t.now args.n args.place c.requires

-- part_at::count_records(t)
pub count_records-requires : goal.count_records-requires
count_records-requires c =
    table_passes c.args.t.now c.shared_slice_known-1.given
    c.requires.0

-- part_at::count_records(t)
pub overflow_add-records : goal.overflow_add-records
overflow_add-records c =
    let q = table_passes c.args.t.now c.shared_slice_known-1.given c.requires.0 in
    omega (arith, c.count_records.ensures, q.few)

-- part_at::count_records(t)
pub overflow_add-records-2 : goal.overflow_add-records-2
overflow_add-records-2 c =
    let args = c.args in
    let t = args.t.now in
    let pre = c.requires in
    let known = c.shared_slice_known-1.given in
    let added = c.added-more in
    let q = table_passes t known pre.0 in
    omega (
      arith,
      c.count_records.ensures,
      q.few,
      few_added t known args.n args.place pre args.cuts.source args.cuts.target added.result added.ensures,
    )

-- orders::count_parts(t)
pub count_parts-parts-requires : goal.count_parts-parts-requires
count_parts-parts-requires c =
    table_passes c.args.t.now c.shared_slice_known-1.given c.requires.0

-- orders::count_parts(t)
pub overflow_add-parts : goal.overflow_add-parts
overflow_add-parts c =
    let t = c.args.t.now in
    let known = c.shared_slice_known-1.given in
    let q = table_passes t known c.requires.0 in
    omega (arith, c.count_parts-parts.ensures, few_parts t q)

-- marks::TEXT_WIDTH * more
pub overflow_mul-bytes : goal.overflow_mul-bytes
overflow_mul-bytes c =
    let args = c.args in
    let known = c.shared_slice_known-1.given in
    let added = c.added-more in
    omega (
      arith,
      few_added args.t.now known args.n args.place c.requires args.cuts.source args.cuts.target added.result
          added.ensures,
    )

-- t.len()
pub overflow_add-bytes-2 : goal.overflow_add-bytes-2
overflow_add-bytes-2 c =
    let args = c.args in
    let t = args.t.now in
    let pre = c.requires in
    let known = c.shared_slice_known-1.given in
    let added = c.added-more in
    let (v, st) = pre in
    let (b, p, a, e, s) = st in
    omega (
      arith,
      few_added t known args.n args.place pre args.cuts.source args.cuts.target added.result added.ensures,
      small_table t pre.0,
      s.head.ordered,
      s.head.within,
    )

-- (room < bytes) | ((8192 < bytes) | ((1024 < records) | (64 < parts)))
pub returns : goal.returns
returns c =
    let args = c.args in
    let known = c.shared_slice_known-1.given in
    let added = c.added-more in
    let count-records = c.count_records in
    let count-parts = c.count_parts-parts in
    too_large_at args.t.now known args.n args.place c.requires args.cuts.source args.cuts.target added.result
    added.ensures args.cuts.new_id args.room count-records.result count-parts.result count-records.ensures
    count-parts.ensures
