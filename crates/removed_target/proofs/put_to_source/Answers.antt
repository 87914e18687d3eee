use Rattle.removed_target.proofs.RemovedLaws.{lead_long, source_pieces, source_room, head_room}
use Rattle.writer.proofs.RunLaws.{first_room, second_start, second_room, two_fit, third_start, third_room, three_fit, all_wrote}
use native.Mathlib.Omega.{arith}
use Rattle.writer.specs.Pieces.{rest}
use mathlib.Core.Path.{sym}
use Rattle.removed_target.proofs.put_to_source.Goals as goal

-- &t[..h]
pub slice_bounds-put-end : goal.slice_bounds-put-end
slice_bounds-put-end c =
    let (st, room) = c.requires in
    let (b, p, a, s) = st in
    sym (lead_long c.args.t.now b p a c.args.place s)

-- writer::put(out, &t[..h])
pub put-n-requires : goal.put-n-requires
put-n-requires c =
    let args = c.args in
    let t = args.t.now in
    let place = args.place in
    let state = args.state in
    let out = args.out.now in
    let (st, room) = c.requires in
    let (b, p, a, s) = st in
    first_room (source_pieces t b p a place s state) out (source_room t b p a place s state out room)

-- &mut out[n..]
pub slice_bounds-put_with_state-count : goal.slice_bounds-put_with_state-count
slice_bounds-put_with_state-count c =
    let args = c.args in
    let t = args.t.now in
    let place = args.place in
    let state = args.state in
    let out = args.out.now in
    let (st, room) = c.requires in
    let (b, p, a, s) = st in
    second_start (source_pieces t b p a place s state) out (source_room t b p a place s state out room)
    c.put-n.ensures

-- &mut out[n..]
pub slice_bounds-put_with_state-start : goal.slice_bounds-put_with_state-start
slice_bounds-put_with_state-start c =
    let args = c.args in
    let t = args.t.now in
    let place = args.place in
    let state = args.state in
    let out = args.out.now in
    let (st, room) = c.requires in
    let (b, p, a, s) = st in
    second_start (source_pieces t b p a place s state) out (source_room t b p a place s state out room)
    c.put-n.ensures

-- heads::put_with_state(&mut out[n..], &t[h..s], state)
pub put_with_state-m-requires : goal.put_with_state-m-requires
put_with_state-m-requires c =
    let args = c.args in
    let t = args.t.now in
    let place = args.place in
    let state = args.state in
    let out = args.out.now in
    let put = c.put-n in
    let (st, room) = c.requires in
    let (b, p, a, s) = st in
    head_room t b p a place s state (rest put.result put.new.out)
    (second_room (source_pieces t b p a place s state) out (source_room t b p a place s state out room)
    put.ensures)

-- n + m
pub overflow_add-k : goal.overflow_add-k
overflow_add-k c =
    let args = c.args in
    let t = args.t.now in
    let place = args.place in
    let state = args.state in
    let out = args.out.now in
    let put = c.put-n in
    let (st, room) = c.requires in
    let (b, p, a, s) = st in
    omega (
      arith,
      two_fit (source_pieces t b p a place s state) out (source_room t b p a place s state out room) put.ensures
          (c.put_with_state-m.ensures p.head (sym s.head.is)),
    )

-- &mut out[k..]
pub slice_bounds-put-count : goal.slice_bounds-put-count
slice_bounds-put-count c =
    let args = c.args in
    let t = args.t.now in
    let place = args.place in
    let state = args.state in
    let out = args.out.now in
    let put = c.put-n in
    let (st, room) = c.requires in
    let (b, p, a, s) = st in
    third_start (source_pieces t b p a place s state) out (source_room t b p a place s state out room)
    put.ensures (c.put_with_state-m.ensures p.head (sym s.head.is))

-- &mut out[k..]
pub slice_bounds-put-start : goal.slice_bounds-put-start
slice_bounds-put-start c =
    let args = c.args in
    let t = args.t.now in
    let place = args.place in
    let state = args.state in
    let out = args.out.now in
    let put = c.put-n in
    let (st, room) = c.requires in
    let (b, p, a, s) = st in
    third_start (source_pieces t b p a place s state) out (source_room t b p a place s state out room)
    put.ensures (c.put_with_state-m.ensures p.head (sym s.head.is))

-- writer::put(&mut out[k..], &t[s..g])
pub put-i-requires : goal.put-i-requires
put-i-requires c =
    let args = c.args in
    let t = args.t.now in
    let place = args.place in
    let state = args.state in
    let out = args.out.now in
    let put = c.put-n in
    let put-with-state = c.put_with_state-m in
    let (st, room) = c.requires in
    let (b, p, a, s) = st in
    third_room (source_pieces t b p a place s state) out (source_room t b p a place s state out room) put.ensures
    (put-with-state.ensures p.head (sym s.head.is))

-- k + i
pub overflow_add-result : goal.overflow_add-result
overflow_add-result c =
    let args = c.args in
    let t = args.t.now in
    let place = args.place in
    let state = args.state in
    let out = args.out.now in
    let put = c.put-n in
    let put-with-state = c.put_with_state-m in
    let (st, room) = c.requires in
    let (b, p, a, s) = st in
    omega (
      arith,
      three_fit (source_pieces t b p a place s state) out (source_room t b p a place s state out room)
          put.ensures (put-with-state.ensures p.head (sym s.head.is))
          c.put-i.ensures.0,
    )

-- k + i
pub returns : goal.returns
returns c =
    let args = c.args in
    let put = c.put-n in
    let put-with-state = c.put_with_state-m in
    λ b p a s.
    all_wrote (source_pieces args.t.now b p a args.place s args.state) args.out.now put.ensures
    (put-with-state.ensures p.head (sym s.head.is)) c.put-i.ensures
