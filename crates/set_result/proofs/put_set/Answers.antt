use Rattle.set_result.proofs.PieceLaws.{pieces_by, set_room, set_all}
use Rattle.writer.proofs.RunLaws.{second_start, second_room, two_fit, third_start, third_room, three_fit, all_wrote}
use native.Mathlib.Omega.{arith}
use mathlib.Core.Path.{refl}
use Rattle.set_result.proofs.put_set.Goals as goal

-- &mut out[n..]
pub slice_bounds-put_target-count : goal.slice_bounds-put_target-count
slice_bounds-put_target-count c =
    let args = c.args in
    let t = args.t.now in
    let place = args.place in
    let state = args.state in
    let order = args.order in
    let content = args.content.now in
    let out = args.out.now in
    let (st, room) = c.requires in
    let (b, p, a, s) = st in
    second_start (pieces_by t b p a place s state order content refl) out
    (set_room t b p a place s state order content out room) (c.put_to_source-n.ensures b p a s)

-- &mut out[n..]
pub slice_bounds-put_target-start : goal.slice_bounds-put_target-start
slice_bounds-put_target-start c =
    let args = c.args in
    let t = args.t.now in
    let place = args.place in
    let state = args.state in
    let order = args.order in
    let content = args.content.now in
    let out = args.out.now in
    let (st, room) = c.requires in
    let (b, p, a, s) = st in
    second_start (pieces_by t b p a place s state order content refl) out
    (set_room t b p a place s state order content out room) (c.put_to_source-n.ensures b p a s)

-- heads::put_target(&mut out[n..], order, content)
pub put_target-m-requires : goal.put_target-m-requires
put_target-m-requires c =
    let args = c.args in
    let t = args.t.now in
    let place = args.place in
    let state = args.state in
    let order = args.order in
    let content = args.content.now in
    let out = args.out.now in
    let put-to-source = c.put_to_source-n in
    let (st, room) = c.requires in
    let (b, p, a, s) = st in
    second_room (pieces_by t b p a place s state order content refl) out
    (set_room t b p a place s state order content out room) (put-to-source.ensures b p a s)

-- n + m
pub overflow_add-k : goal.overflow_add-k
overflow_add-k c =
    let args = c.args in
    let t = args.t.now in
    let place = args.place in
    let state = args.state in
    let order = args.order in
    let content = args.content.now in
    let out = args.out.now in
    let put-to-source = c.put_to_source-n in
    let (st, room) = c.requires in
    let (b, p, a, s) = st in
    omega (
      arith,
      two_fit (pieces_by t b p a place s state order content refl) out
          (set_room t b p a place s state order content out room) (put-to-source.ensures b p a s)
          c.put_target-m.ensures,
    )

-- &mut out[k..]
pub slice_bounds-put-count : goal.slice_bounds-put-count
slice_bounds-put-count c =
    let args = c.args in
    let t = args.t.now in
    let place = args.place in
    let state = args.state in
    let order = args.order in
    let content = args.content.now in
    let out = args.out.now in
    let put-to-source = c.put_to_source-n in
    let (st, room) = c.requires in
    let (b, p, a, s) = st in
    third_start (pieces_by t b p a place s state order content refl) out
    (set_room t b p a place s state order content out room) (put-to-source.ensures b p a s)
    c.put_target-m.ensures

-- &mut out[k..]
pub slice_bounds-put-start : goal.slice_bounds-put-start
slice_bounds-put-start c =
    let args = c.args in
    let t = args.t.now in
    let place = args.place in
    let state = args.state in
    let order = args.order in
    let content = args.content.now in
    let out = args.out.now in
    let put-to-source = c.put_to_source-n in
    let (st, room) = c.requires in
    let (b, p, a, s) = st in
    third_start (pieces_by t b p a place s state order content refl) out
    (set_room t b p a place s state order content out room) (put-to-source.ensures b p a s)
    c.put_target-m.ensures

-- writer::put(&mut out[k..], &t[e..])
pub put-i-requires : goal.put-i-requires
put-i-requires c =
    let args = c.args in
    let t = args.t.now in
    let place = args.place in
    let state = args.state in
    let order = args.order in
    let content = args.content.now in
    let out = args.out.now in
    let put-to-source = c.put_to_source-n in
    let put-target = c.put_target-m in
    let (st, room) = c.requires in
    let (b, p, a, s) = st in
    third_room (pieces_by t b p a place s state order content refl) out
    (set_room t b p a place s state order content out room) (put-to-source.ensures b p a s) put-target.ensures

-- k + i
pub overflow_add-result : goal.overflow_add-result
overflow_add-result c =
    let args = c.args in
    let t = args.t.now in
    let place = args.place in
    let state = args.state in
    let order = args.order in
    let content = args.content.now in
    let out = args.out.now in
    let put-to-source = c.put_to_source-n in
    let put-target = c.put_target-m in
    let (st, room) = c.requires in
    let (b, p, a, s) = st in
    omega (
      arith,
      three_fit (pieces_by t b p a place s state order content refl) out
          (set_room t b p a place s state order content out room) (put-to-source.ensures b p a s)
          put-target.ensures c.put-i.ensures.0,
    )

-- k + i
pub returns : goal.returns
returns c =
    let args = c.args in
    let t = args.t.now in
    let place = args.place in
    let state = args.state in
    let order = args.order in
    let content = args.content.now in
    let put-to-source = c.put_to_source-n in
    let put-target = c.put_target-m in
    λ b p a s xs is.
    all_wrote (pieces_by t b p a place s state order content (set_all t b p a place s state order content xs is))
    args.out.now (put-to-source.ensures b p a s) put-target.ensures c.put-i.ensures
