use Rattle.part_at.proofs.SpanLaws.{source_content, head_within, some_head, part_target, part_spans}
use native.Mathlib.Omega.{arith}
use Rattle.part_at.proofs.part_from.Goals as goal

-- &t[at..source]
pub slice_bounds-is_segment-count : goal.slice_bounds-is_segment-count
slice_bounds-is_segment-count c =
    let args = c.args in
    (head_within args.t.now args.at c.after-source.result c.after-source.ensures c.requires).0

-- &t[at..source]
pub slice_bounds-is_segment-start : goal.slice_bounds-is_segment-start
slice_bounds-is_segment-start c =
    let args = c.args in
    let z = head_within args.t.now args.at c.after-source.result c.after-source.ensures c.requires in
    omega (arith, z.0, z.1)

-- &t[at..source]
pub slice_bounds-is_segment-end : goal.slice_bounds-is_segment-end
slice_bounds-is_segment-end c =
    let args = c.args in
    (head_within args.t.now args.at c.after-source.result c.after-source.ensures c.requires).1

-- heads::is_segment(&t[at..source])
pub is_segment-segment-requires : goal.is_segment-segment-requires
is_segment-segment-requires c =
    let args = c.args in
    let after = c.after-source in
    some_head args.t.now args.at after.result after.ensures c.requires

-- content_end(t, source)
pub content_end-target-requires : goal.content_end-target-requires
content_end-target-requires c =
    let args = c.args in
    let after = c.after-source in
    source_content args.t.now args.at after.result after.ensures c.requires

-- target_place(t, at, source, target, segment)
pub target_place-requires : goal.target_place-requires
target_place-requires c =
    let args = c.args in
    let after = c.after-source in
    part_target args.t.now args.at after.result after.ensures c.content_end-target.result
    c.content_end-target.ensures c.requires

-- target_place(t, at, source, target, segment)
pub returns : goal.returns
returns c =
    let args = c.args in
    let after = c.after-source in
    let is_segment = c.is_segment-segment in
    let content_end = c.content_end-target in
    part_spans args.t.now args.at after.result after.ensures content_end.result
    content_end.ensures is_segment.result is_segment.ensures c.target_place.result
    c.target_place.ensures
