use Rattle.sequences.proofs.FillLaws.{fill_room, fill_on, fill_end}
use Rattle.sequences.proofs.MarkLaws.{order_on, order_end, order_start}
use Rattle.sequences.specs.Marks.{offsets}
use Rattle.places.proofs.Few.{few_targets}
use lib.ListN.{length}
use lib.Seq.{length-take-le}
use native.Mathlib.Omega.{arith}
use mathlib.Core.Path.{refl, sym, ◌∙◌, ap}
use mathlib.Core.Bool.{false}
use Prim.Native.Nat.{◌+◌}
use Rattle.sequences.proofs.targets.Goals as goal

-- target_heads(t, &mut heads)
pub target_heads-k-requires : goal.target_heads-k-requires
target_heads-k-requires c =
    let pre = c.requires in
    (pre.0, pre.1, refl)

-- &heads[..k]
pub slice_bounds-heads-end : goal.slice_bounds-heads-end
slice_bounds-heads-end c = omega (arith, c.target_heads-k.ensures.1)

-- &heads[..k]
pub slice_bounds-head_orders-end : goal.slice_bounds-head_orders-end
slice_bounds-head_orders-end c =
    let target-heads = c.target_heads-k in
    sym (length-take-le target-heads.result target-heads.new.heads
    (omega (arith, target-heads.ensures.1, target-heads.ensures.2)))

-- head_orders(t, &heads[..k], &mut orders)
pub head_orders-requires : goal.head_orders-requires
head_orders-requires c =
    let pre = c.requires in
    let target-heads = c.target_heads-k in (
      pre.0,
      target-heads.ensures.0,
      omega (
        arith,
        length-take-le target-heads.result target-heads.new.heads
            (omega (arith, target-heads.ensures.1, target-heads.ensures.2)),
        target-heads.ensures.1,
      ),
    )

-- the loop's start
pub loop-q-init : goal.loop-q-init
loop-q-init c =
    let e = order_start c.args.t.now c.args.parts in
    (omega arith, record { sized = c.requires.2; all = e; count = omega (arith, ap length e) })

-- collect(t, heads, q + 1, out, n)
pub collect-n-requires : goal.collect-n-requires
collect-n-requires c =
    let args = c.args in
    let t = args.t.now in
    let parts = args.parts in
    let pre = c.requires in
    let target-heads = c.target_heads-k in
    let head-orders = c.head_orders in
    let loop = c.loop-q in
    let loop-test = c.loop-q-test in
    let e = order_on t loop.q parts loop-test.true in (
      pre.0,
      pre.1,
      target-heads.ensures.0,
      fill_room (offsets false (loop.q + 1) t) _ loop.invariant.1 e (few_targets t pre.0 parts),
      omega (arith, loop.invariant.1.sized),
      head-orders.ensures.1,
    )

-- the loop's step
pub loop-q-preserved : goal.loop-q-preserved
loop-q-preserved c =
    let args = c.args in
    let t = args.t.now in
    let loop = c.loop-q in
    let loop-test = c.loop-q-test in
    let e = order_on t loop.q args.parts loop-test.true in (
      omega (arith, loop-test.true),
      fill_on (offsets false (loop.q + 1) t) _ loop.invariant.1 e c.collect-n.ensures,
    )

-- n
pub shape_of-out : goal.shape_of-out
shape_of-out c =
    let pre = c.requires in
    c.loop-q.invariant.1.sized ∙ sym pre.2

-- n
pub returns : goal.returns
returns c =
    let args = c.args in
    let t = args.t.now in
    let parts = args.parts in
    let loop = c.loop-q in
    let f = fill_end loop.invariant.1 (order_end t loop.q parts c.loop-q-test.false) in
    (f.0, omega (arith, f.1, few_targets t c.requires.0 parts), loop.invariant.1.sized)
