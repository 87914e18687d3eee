use Rattle.set_result.proofs.CountLaws.{holds_bytes, old_within, long_content, counted}
use Rattle.xliff.specs.Parse.{unit}
use Rattle.removed_target.proofs.RemovedLaws.{in_order}
use Rattle.xliff.proofs.unit.Result.{small_table}
use Rattle.part_at.proofs.CheckedLaws.{table_passes}
use native.Mathlib.Omega.{arith}
use Rattle.set_result.proofs.is_too_large.Goals as goal

-- return true
pub returns-then-content-gt-MOST_BYTES : goal.returns-then-content-gt-MOST_BYTES
returns-then-content-gt-MOST_BYTES c =
    let args = c.args in
    let t = args.t.now in
    let content = args.content.now in
    let (ck, sm) = c.requires in
    λ b p a s xs o st q.
    long_content t (table_passes t c.shared_slice_known-1.given ck.0) args.place b p a s
    content xs (holds_bytes content xs o) st q args.room c.if-content-gt-MOST_BYTES.true

-- part_at::count_records(t)
pub count_records-requires : goal.count_records-requires
count_records-requires c =
    let known = c.shared_slice_known-1.given in
    let (ck, sm) = c.requires in
    let (v, st) = ck in
    let k = table_passes c.args.t.now known v in
    k

-- part_at::count_records(t)
pub overflow_add-records : goal.overflow_add-records
overflow_add-records c =
    let known = c.shared_slice_known-1.given in
    let (ck, sm) = c.requires in
    let (v, st) = ck in
    let (b, p, a, s) = st in
    let (xs, o) = sm in
    let k = table_passes c.args.t.now known v in
    omega (arith, c.count_records.ensures, k.few)

-- part_at::count_records(t)
pub overflow_add-records-2 : goal.overflow_add-records-2
overflow_add-records-2 c =
    let known = c.shared_slice_known-1.given in
    let (ck, sm) = c.requires in
    let (v, st) = ck in
    let (b, p, a, s) = st in
    let (xs, o) = sm in
    let k = table_passes c.args.t.now known v in
    omega (arith, c.count_records.ensures, k.few, c.count_records-2.ensures.0)

-- part_at::count_records(t)
pub overflow_sub-records : goal.overflow_sub-records
overflow_sub-records c =
    let t = c.args.t.now in
    let known = c.shared_slice_known-1.given in
    let (ck, sm) = c.requires in
    let (v, st) = ck in
    let (b, p, a, s) = st in
    let (xs, o) = sm in
    let k = table_passes t known v in
    omega (
      arith,
      c.old_records-old.ensures b p a s,
      c.count_records.ensures,
      old_within (unit t) 0 0 xs b p a s.all,
    )

-- place.target + 4 + content.len()
pub overflow_add-bytes-3 : goal.overflow_add-bytes-3
overflow_add-bytes-3 c =
    let args = c.args in
    let t = args.t.now in
    let known = c.shared_slice_known-1.given in
    let (ck, sm) = c.requires in
    let (v, st) = ck in
    let (b, p, a, s) = st in
    let (xs, o) = sm in
    let k = table_passes t known v in
    let z = in_order t b p a args.place s in
    omega (arith, small_table t v)

-- (room < bytes) | ((8192 < bytes) | (1024 < records))
pub returns : goal.returns
returns c =
    let args = c.args in
    let t = args.t.now in
    let content = args.content.now in
    let known = c.shared_slice_known-1.given in
    let old-records = c.old_records-old in
    let count-records = c.count_records in
    let count-records2 = c.count_records-2 in
    let (ck, sm) = c.requires in
    λ b p a s xs o st q.
    counted t (table_passes t known ck.0) args.place b p a s content xs (holds_bytes content xs o) st q
    args.room count-records.result count-records2.result old-records.result count-records.ensures
    (count-records2.ensures.1 xs o) (old-records.ensures b p a s)
