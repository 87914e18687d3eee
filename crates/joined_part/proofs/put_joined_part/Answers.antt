use Rattle.joined_part.proofs.PartLaws.{joined_pieces, heads_asked, heads_wrote, sources_asked, sources_wrote, first_ends, second_ends, targets_asked, targets_wrote, part_wrote}
use Rattle.joined_part.specs.Joined.{part_bytes}
use Rattle.table.proofs.WidthLaws.{bytes_known}
use Rattle.writer.specs.Pieces.{rest, back}
use Rattle.writer.proofs.PieceLaws.{lead_length}
use Rattle.writer.proofs.RunLaws.{first_room, second_start, second_room, two_fit, third_start, third_room, three_fit}
use native.Mathlib.Omega.{arith}
use lib.ListN.{length}
use mathlib.Core.Path.{ap, ◌∙◌}
use Prim.Native.Nat.{◌+◌}
use Rattle.joined_part.proofs.put_joined_part.Goals as goal

-- put_joined_head(out, &t[h..s], &t[i..r])
pub put_joined_head-n-requires : goal.put_joined_head-n-requires
put_joined_head-n-requires c =
    let args = c.args in
    let t = args.t.now in
    let out = args.out.now in
    let known = c.shared_slice_known-1.given in
    let (v, small, room) = c.requires in
    heads_asked t (bytes_known t known) args.x args.y v out
    (first_room (joined_pieces args.order v.first v.second) out room)

-- &mut out[n..]
pub slice_bounds-put_joined-count : goal.slice_bounds-put_joined-count
slice_bounds-put_joined-count c =
    let args = c.args in
    let out = args.out.now in
    let t = args.t.now in
    let known = c.shared_slice_known-1.given in
    let put-joined-head = c.put_joined_head-n in
    let (v, small, room) = c.requires in
    second_start (joined_pieces args.order v.first v.second) out room
    (heads_wrote t (bytes_known t known) args.x args.y v out put-joined-head.result
    put-joined-head.new.out put-joined-head.ensures)

-- &mut out[n..]
pub slice_bounds-put_joined-start : goal.slice_bounds-put_joined-start
slice_bounds-put_joined-start c =
    let args = c.args in
    let out = args.out.now in
    let t = args.t.now in
    let known = c.shared_slice_known-1.given in
    let put-joined-head = c.put_joined_head-n in
    let (v, small, room) = c.requires in
    second_start (joined_pieces args.order v.first v.second) out room
    (heads_wrote t (bytes_known t known) args.x args.y v out put-joined-head.result
    put-joined-head.new.out put-joined-head.ensures)

-- joined_content::put_joined(&mut out[n..], &t[s..g], &t[r..k])
pub put_joined-m-requires : goal.put_joined-m-requires
put_joined-m-requires c =
    let args = c.args in
    let t = args.t.now in
    let x = args.x in
    let y = args.y in
    let out = args.out.now in
    let known = c.shared_slice_known-1.given in
    let put-joined-head = c.put_joined_head-n in
    let (v, small, room) = c.requires in
    sources_asked t (bytes_known t known) x y v (rest put-joined-head.result put-joined-head.new.out) small
    (second_room (joined_pieces args.order v.first v.second) out room
    (heads_wrote t (bytes_known t known) x y v out put-joined-head.result put-joined-head.new.out
    put-joined-head.ensures))

-- n + m
pub overflow_add-w : goal.overflow_add-w
overflow_add-w c =
    let args = c.args in
    let out = args.out.now in
    let t = args.t.now in
    let x = args.x in
    let y = args.y in
    let known = c.shared_slice_known-1.given in
    let put-joined-head = c.put_joined_head-n in
    let put-joined = c.put_joined-m in
    let (v, small, room) = c.requires in
    omega (
      arith,
      two_fit (joined_pieces args.order v.first v.second) out room
          (heads_wrote t (bytes_known t known) x y v out put-joined-head.result put-joined-head.new.out
          put-joined-head.ensures)
          (sources_wrote t (bytes_known t known) x y v (rest put-joined-head.result put-joined-head.new.out)
          put-joined.result put-joined.new.out put-joined.ensures),
    )

-- &mut out[w..]
pub slice_bounds-put_joined_target-count : goal.slice_bounds-put_joined_target-count
slice_bounds-put_joined_target-count c =
    let args = c.args in
    let out = args.out.now in
    let t = args.t.now in
    let x = args.x in
    let y = args.y in
    let known = c.shared_slice_known-1.given in
    let put-joined-head = c.put_joined_head-n in
    let put-joined = c.put_joined-m in
    let (v, small, room) = c.requires in
    third_start (joined_pieces args.order v.first v.second) out room
    (heads_wrote t (bytes_known t known) x y v out put-joined-head.result put-joined-head.new.out
    put-joined-head.ensures)
    (sources_wrote t (bytes_known t known) x y v (rest put-joined-head.result put-joined-head.new.out)
    put-joined.result put-joined.new.out put-joined.ensures)

-- &mut out[w..]
pub slice_bounds-put_joined_target-start : goal.slice_bounds-put_joined_target-start
slice_bounds-put_joined_target-start c =
    let args = c.args in
    let out = args.out.now in
    let t = args.t.now in
    let x = args.x in
    let y = args.y in
    let known = c.shared_slice_known-1.given in
    let put-joined-head = c.put_joined_head-n in
    let put-joined = c.put_joined-m in
    let (v, small, room) = c.requires in
    third_start (joined_pieces args.order v.first v.second) out room
    (heads_wrote t (bytes_known t known) x y v out put-joined-head.result put-joined-head.new.out
    put-joined-head.ensures)
    (sources_wrote t (bytes_known t known) x y v (rest put-joined-head.result put-joined-head.new.out)
    put-joined.result put-joined.new.out put-joined.ensures)

-- &t[g..e]
pub slice_bounds-put_joined_target-count-2 : goal.slice_bounds-put_joined_target-count-2
slice_bounds-put_joined_target-count-2 c =
    let args = c.args in
    let t = args.t.now in
    let known = c.shared_slice_known-1.given in
    let (v, small, room) = c.requires in
    (first_ends t (bytes_known t known) args.x args.y v).0

-- &t[g..e]
pub slice_bounds-put_joined_target-start-2 : goal.slice_bounds-put_joined_target-start-2
slice_bounds-put_joined_target-start-2 c =
    let args = c.args in
    let t = args.t.now in
    let known = c.shared_slice_known-1.given in
    let (v, small, room) = c.requires in
    let (e, f) = first_ends t (bytes_known t known) args.x args.y v in
    omega (arith, e, f)

-- &t[k..f]
pub slice_bounds-put_joined_target-count-3 : goal.slice_bounds-put_joined_target-count-3
slice_bounds-put_joined_target-count-3 c =
    let args = c.args in
    let t = args.t.now in
    let known = c.shared_slice_known-1.given in
    let (v, small, room) = c.requires in
    (second_ends t (bytes_known t known) args.x args.y v).0

-- &t[k..f]
pub slice_bounds-put_joined_target-start-3 : goal.slice_bounds-put_joined_target-start-3
slice_bounds-put_joined_target-start-3 c =
    let args = c.args in
    let t = args.t.now in
    let known = c.shared_slice_known-1.given in
    let (v, small, room) = c.requires in
    let (e, f) = second_ends t (bytes_known t known) args.x args.y v in
    omega (arith, e, f)

-- put_joined_target(&mut out[w..], &t[g..e], &t[k..f], order)
pub put_joined_target-z-requires : goal.put_joined_target-z-requires
put_joined_target-z-requires c =
    let args = c.args in
    let t = args.t.now in
    let x = args.x in
    let y = args.y in
    let order = args.order in
    let out = args.out.now in
    let known = c.shared_slice_known-1.given in
    let put-joined-head = c.put_joined_head-n in
    let put-joined = c.put_joined-m in
    let (v, small, room) = c.requires in
    targets_asked t (bytes_known t known) x y v order
    (rest (put-joined-head.result + put-joined.result)
    (back put-joined-head.result put-joined-head.new.out put-joined.new.out)) small
    (third_room (joined_pieces order v.first v.second) out room
    (heads_wrote t (bytes_known t known) x y v out put-joined-head.result put-joined-head.new.out
    put-joined-head.ensures)
    (sources_wrote t (bytes_known t known) x y v (rest put-joined-head.result put-joined-head.new.out)
    put-joined.result put-joined.new.out put-joined.ensures))

-- w + z
pub overflow_add-result : goal.overflow_add-result
overflow_add-result c =
    let args = c.args in
    let order = args.order in
    let out = args.out.now in
    let t = args.t.now in
    let x = args.x in
    let y = args.y in
    let known = c.shared_slice_known-1.given in
    let put-joined-head = c.put_joined_head-n in
    let put-joined = c.put_joined-m in
    let put-joined-target = c.put_joined_target-z in
    let (v, small, room) = c.requires in
    omega (
      arith,
      three_fit (joined_pieces order v.first v.second) out room
          (heads_wrote t (bytes_known t known) x y v out put-joined-head.result put-joined-head.new.out
          put-joined-head.ensures)
          (sources_wrote t (bytes_known t known) x y v (rest put-joined-head.result put-joined-head.new.out)
          put-joined.result put-joined.new.out put-joined.ensures)
          (targets_wrote t (bytes_known t known) x y v order
          (rest (put-joined-head.result + put-joined.result)
          (back put-joined-head.result put-joined-head.new.out put-joined.new.out))
          put-joined-target.result put-joined-target.new.out put-joined-target.ensures).0,
    )

-- w + z
pub shape_of-out : goal.shape_of-out
shape_of-out c =
    let args = c.args in
    let order = args.order in
    let out = args.out.now in
    let t = args.t.now in
    let x = args.x in
    let y = args.y in
    let known = c.shared_slice_known-1.given in
    let put-joined-head = c.put_joined_head-n in
    let put-joined = c.put_joined-m in
    let put-joined-target = c.put_joined_target-z in
    let (v, small, room) = c.requires in
    let wrote =
    part_wrote t (bytes_known t known) x y v order out put-joined-head.new.out put-joined.new.out put-joined-target.new.out
    put-joined-head.result put-joined.result put-joined-target.result
    put-joined-head.ensures put-joined.ensures put-joined-target.ensures in
    ap length wrote.1 ∙ lead_length (part_bytes order v.first v.second) out room

-- w + z
pub returns : goal.returns
returns c =
    let args = c.args in
    let order = args.order in
    let out = args.out.now in
    let t = args.t.now in
    let x = args.x in
    let y = args.y in
    let known = c.shared_slice_known-1.given in
    let put-joined-head = c.put_joined_head-n in
    let put-joined = c.put_joined-m in
    let put-joined-target = c.put_joined_target-z in
    λ v.
    part_wrote t (bytes_known t known) x y v order out put-joined-head.new.out put-joined.new.out put-joined-target.new.out
    put-joined-head.result put-joined.result put-joined-target.result
    put-joined-head.ensures put-joined.ensures put-joined-target.ensures
