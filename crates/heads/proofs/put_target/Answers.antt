use Rattle.heads.proofs.HeadLaws.{target_pieces}
use Rattle.writer.proofs.RunLaws.{first_room, second_start, second_room, two_fit, both_wrote}
use native.Mathlib.Omega.{arith}
use mathlib.Core.Path.{refl}
use Rattle.heads.proofs.put_target.Goals as goal

-- put_target_head(out, order)
pub put_target_head-n-requires : goal.put_target_head-n-requires
put_target_head-n-requires c =
    let args = c.args in
    first_room (target_pieces args.order args.content.now) args.out.now c.requires

-- &mut out[n..]
pub slice_bounds-put-count : goal.slice_bounds-put-count
slice_bounds-put-count c =
    let args = c.args in
    second_start (target_pieces args.order args.content.now) args.out.now c.requires
    c.put_target_head-n.ensures

-- &mut out[n..]
pub slice_bounds-put-start : goal.slice_bounds-put-start
slice_bounds-put-start c =
    let args = c.args in
    second_start (target_pieces args.order args.content.now) args.out.now c.requires
    c.put_target_head-n.ensures

-- writer::put(&mut out[n..], content)
pub put-k-requires : goal.put-k-requires
put-k-requires c =
    let args = c.args in
    let put-target-head = c.put_target_head-n in
    second_room (target_pieces args.order args.content.now) args.out.now c.requires
    put-target-head.ensures

-- n + k
pub overflow_add-result : goal.overflow_add-result
overflow_add-result c =
    let args = c.args in
    let put-target-head = c.put_target_head-n in
    omega (
      arith,
      two_fit (target_pieces args.order args.content.now) args.out.now c.requires
          put-target-head.ensures c.put-k.ensures,
    )

-- n + k
pub returns : goal.returns
returns c =
    let args = c.args in
    let put-target-head = c.put_target_head-n in
    both_wrote (target_pieces args.order args.content.now) args.out.now put-target-head.ensures
    c.put-k.ensures refl
