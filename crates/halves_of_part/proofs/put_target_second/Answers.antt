use Rattle.halves_of_part.proofs.PartLaws.{no_second, target_second, order_rises}
use Rattle.part_at.proofs.TargetLaws.{present, some_target}
use Rattle.writer.proofs.RunLaws.{first_room, second_start, second_room, two_fit, both_wrote}
use native.Mathlib.Omega.{arith}
use mathlib.Core.Path.{refl}
use Rattle.halves_of_part.proofs.put_target_second.Goals as goal

-- return 0
pub returns-then-t-eq0 : goal.returns-then-t-eq0
returns-then-t-eq0 c =
    let args = c.args in
    λ g is. no_second args.t.now args.k args.out.now g c.if-t-eq0.true is

-- heads::order_of(t)
pub order_of-requires : goal.order_of-requires
order_of-requires c =
    let t = c.args.t.now in
    let (g, is, rises, room) = c.requires in
    some_target t g (present t g c.if-t-eq0.false is)

-- heads::order_of(t)
pub overflow_add-order_of : goal.overflow_add-order_of
overflow_add-order_of c =
    let args = c.args in
    let t = args.t.now in
    let (g, is, rises, room) = c.requires in
    let p = present t g c.if-t-eq0.false is in
    omega (arith, order_rises t g p args.k c.order_of.result c.order_of.ensures rises)

-- heads::put_target_head(out, heads::order_of(t) + 1)
pub put_target_head-n-requires : goal.put_target_head-n-requires
put_target_head-n-requires c =
    let args = c.args in
    let t = args.t.now in
    let (g, is, rises, room) = c.requires in
    let p = present t g c.if-t-eq0.false is in
    first_room (target_second t g p args.k c.order_of.result c.order_of.ensures) args.out.now room

-- &mut out[n..]
pub slice_bounds-put_second-count : goal.slice_bounds-put_second-count
slice_bounds-put_second-count c =
    let args = c.args in
    let t = args.t.now in
    let if1 = c.if-t-eq0 in
    let order-of = c.order_of in
    let (g, is, rises, room) = c.requires in
    let p = present t g if1.false is in
    second_start (target_second t g p args.k order-of.result order-of.ensures) args.out.now room
    c.put_target_head-n.ensures

-- &mut out[n..]
pub slice_bounds-put_second-start : goal.slice_bounds-put_second-start
slice_bounds-put_second-start c =
    let args = c.args in
    let t = args.t.now in
    let if1 = c.if-t-eq0 in
    let order-of = c.order_of in
    let (g, is, rises, room) = c.requires in
    let p = present t g if1.false is in
    second_start (target_second t g p args.k order-of.result order-of.ensures) args.out.now room
    c.put_target_head-n.ensures

-- &t[marks::TARGET_WIDTH..]
pub slice_bounds-put_second-count-2 : goal.slice_bounds-put_second-count-2
slice_bounds-put_second-count-2 c =
    let if1 = c.if-t-eq0 in
    let (g, is, rises, room) = c.requires in
    let p = present c.args.t.now g if1.false is in
    p.least

-- &t[marks::TARGET_WIDTH..]
pub slice_bounds-put_second-start-2 : goal.slice_bounds-put_second-start-2
slice_bounds-put_second-start-2 c =
    let if1 = c.if-t-eq0 in
    let (g, is, rises, room) = c.requires in
    let p = present c.args.t.now g if1.false is in
    omega (arith, p.least)

-- cut::put_second(&mut out[n..], &t[marks::TARGET_WIDTH..], k)
pub put_second-m-requires : goal.put_second-m-requires
put_second-m-requires c =
    let args = c.args in
    let t = args.t.now in
    let if1 = c.if-t-eq0 in
    let order-of = c.order_of in
    let put-target-head = c.put_target_head-n in
    let (g, is, rises, room) = c.requires in
    let p = present t g if1.false is in (
      p.items,
      p.holds,
      second_room (target_second t g p args.k order-of.result order-of.ensures) args.out.now room
          put-target-head.ensures,
    )

-- n + m
pub overflow_add-result : goal.overflow_add-result
overflow_add-result c =
    let args = c.args in
    let t = args.t.now in
    let if1 = c.if-t-eq0 in
    let order-of = c.order_of in
    let put-target-head = c.put_target_head-n in
    let (g, is, rises, room) = c.requires in
    let p = present t g if1.false is in
    omega (
      arith,
      two_fit (target_second t g p args.k order-of.result order-of.ensures) args.out.now room
          put-target-head.ensures (c.put_second-m.ensures p.items p.holds),
    )

-- n + m
pub returns : goal.returns
returns c =
    let args = c.args in
    let t = args.t.now in
    let if1 = c.if-t-eq0 in
    let order-of = c.order_of in
    let put-target-head = c.put_target_head-n in
    λ g is.
    let p = present t g if1.false is in
    both_wrote (target_second t g p args.k order-of.result order-of.ensures) args.out.now
    put-target-head.ensures (c.put_second-m.ensures p.items p.holds) refl
