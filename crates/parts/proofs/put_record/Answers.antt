use Rattle.parts.proofs.RecordLaws.{one_least, target_marked, mark_tested, others_wrote, some_target, order_is, moved_room, target_moved}
use Rattle.parts.specs.Parts.{moved}
use native.Mathlib.Omega.{arith}
use mathlib.Core.Bool.{true, false}
use Rattle.parts.proofs.put_record.Goals as goal

-- marks::marked_by(t, b"TG")
pub marked_by-requires : goal.marked_by-requires
marked_by-requires c =
    omega (arith, one_least c.args.t.now c.requires.0)

-- heads::order_of(t)
pub order_of-requires : goal.order_of-requires
order_of-requires c =
    let (r, g, e) = c.requires.0 in
    let t = c.args.t.now in
    some_target r (target_marked r g (mark_tested r t e _ true c.marked_by.ensures c.if-marked_by.true)) t e

-- moved_order(heads::order_of(t), q, up)
pub moved_order-requires : goal.moved_order-requires
moved_order-requires c =
    let marked_by = c.marked_by in
    let (r, g, e) = c.requires.0 in
    let t = c.args.t.now in
    let b = target_marked r g (mark_tested r t e _ true marked_by.ensures c.if-marked_by.true) in
    omega (arith, order_is r b t e c.order_of.result c.order_of.ensures, b.small)

-- heads::put_target_head(out, moved_order(heads::order_of(t), q, up))
pub put_target_head-n-requires : goal.put_target_head-n-requires
put_target_head-n-requires c =
    let pre = c.requires in
    let marked_by = c.marked_by in
    let if1 = c.if-marked_by in
    let order-of = c.order_of in
    let (r, g, e) = pre.0 in
    moved_room r (target_marked r g (mark_tested r c.args.t.now e _ true marked_by.ensures if1.true))
    c.args.t.now e order-of.result order-of.ensures c.moved_order.result c.args.out.now
    pre.1

-- let n = heads::put_target_head(out, moved_order(heads::order_of(t), q, up));
pub returns-then-marked_by : goal.returns-then-marked_by
returns-then-marked_by c =
    let args = c.args in
    let marked_by = c.marked_by in
    let if1 = c.if-marked_by in
    let order-of = c.order_of in
    let moved_order = c.moved_order in
    let put-target-head = c.put_target_head-n in
    λ r g e.
    target_moved r (target_marked r g (mark_tested r args.t.now e _ true marked_by.ensures if1.true)) args.t.now e
    order-of.result order-of.ensures (moved args.up args.q) moved_order.result moved_order.ensures
    args.out.now put-target-head.new.out put-target-head.result put-target-head.ensures

-- let n = writer::put(out, t);
pub returns-else-marked_by : goal.returns-else-marked_by
returns-else-marked_by c =
    let args = c.args in
    let marked_by = c.marked_by in
    let if1 = c.if-marked_by in
    λ r g e.
    let bare = mark_tested r args.t.now e _ false marked_by.ensures if1.false in
    others_wrote (moved args.up args.q) r g args.t.now args.out.now _ e bare c.put-n.ensures.1
