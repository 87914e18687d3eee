use mathlib.Core.Path.{sym, ◌∙◌}
use native.Mathlib.Omega.{arith}
use Rattle.orders.proofs.WalkLaws.{walked, few_parts}
use Rattle.orders.proofs.OrderLaws.{ordering_start, ordering_refuses, order_within, ordering_uses, ordering_skips, ordering_end}
use Rattle.orders.proofs.rule_5.Goals as goal

-- the loop's start
pub loop-at-init : goal.loop-at-init
loop-at-init c =
    let args = c.args in
    ordering_start args.t.now args.n c.requires.0 c.requires.1

-- bad_order(n, &used, k)
pub bad_order-requires : goal.bad_order-requires
bad_order-requires c =
    omega (arith, few_parts c.args.t.now c.requires.0, c.requires.1)

-- return Some(at)
pub returns-then-bad_order : goal.returns-then-bad_order
returns-then-bad_order c =
    let t = c.args.t.now in
    let loop = c.loop-at in
    let glance_at = c.glance_at-g in
    let v = walked t loop.at loop.invariant.records glance_at.result loop.invariant.here
    c.loop-at-test.true glance_at.ensures in
    ordering_refuses loop.invariant glance_at.result v (omega (arith, few_parts t c.requires.0, c.requires.1))
    c.in-Some.q (sym c.order.ensures ∙ c.in-Some.is) (rw c.from-k.ensures at (sym c.bad_order.ensures ∙ c.if-bad_order.true))

-- used[k] = true
pub bounds-used-k : goal.bounds-used-k
bounds-used-k c =
    let t = c.args.t.now in
    let loop = c.loop-at in
    let glance_at = c.glance_at-g in
    let v = walked t loop.at loop.invariant.records glance_at.result loop.invariant.here
    c.loop-at-test.true glance_at.ensures in
    rw c.from-k.ensures
    (order_within loop.invariant glance_at.result v (omega (arith, few_parts t c.requires.0, c.requires.1))
    c.in-Some.q (sym c.order.ensures ∙ c.in-Some.is) (rw c.from-k.ensures at (sym c.bad_order.ensures ∙ c.if-bad_order.false)))

-- at += w, behind an order
pub overflow_add-at : goal.overflow_add-at
overflow_add-at c =
    let loop = c.loop-at in
    let glance_at = c.glance_at-g in
    let v = walked c.args.t.now loop.at loop.invariant.records
    glance_at.result loop.invariant.here c.loop-at-test.true glance_at.ensures in
    omega (arith, v.fits)

pub loop-at-smaller-in-Some : goal.loop-at-smaller-in-Some
loop-at-smaller-in-Some c =
    let loop = c.loop-at in
    let glance_at = c.glance_at-g in
    let v = walked c.args.t.now loop.at loop.invariant.records
    glance_at.result loop.invariant.here c.loop-at-test.true glance_at.ensures in
    omega (arith, v.fits, v.moves)

-- the loop's step, behind an order
pub loop-at-preserved-in-Some : goal.loop-at-preserved-in-Some
loop-at-preserved-in-Some c =
    let t = c.args.t.now in
    let loop = c.loop-at in
    let glance_at = c.glance_at-g in
    let v = walked t loop.at loop.invariant.records glance_at.result loop.invariant.here
    c.loop-at-test.true glance_at.ensures in
    rw c.from-k.ensures
    (ordering_uses loop.invariant glance_at.result v (omega (arith, few_parts t c.requires.0, c.requires.1))
    c.in-Some.q (sym c.order.ensures ∙ c.in-Some.is) (rw c.from-k.ensures at (sym c.bad_order.ensures ∙ c.if-bad_order.false)))

-- at += w, behind any other record
pub overflow_add-at-in-None : goal.overflow_add-at-in-None
overflow_add-at-in-None c =
    let loop = c.loop-at in
    let glance_at = c.glance_at-g in
    let v = walked c.args.t.now loop.at
    loop.invariant.records glance_at.result loop.invariant.here c.loop-at-test.true
    glance_at.ensures in
    omega (arith, v.fits)

pub loop-at-smaller : goal.loop-at-smaller
loop-at-smaller c =
    let loop = c.loop-at in
    let glance_at = c.glance_at-g in
    let v = walked c.args.t.now loop.at
    loop.invariant.records glance_at.result loop.invariant.here c.loop-at-test.true
    glance_at.ensures in
    omega (arith, v.fits, v.moves)

-- the loop's step, behind any other record
pub loop-at-preserved : goal.loop-at-preserved
loop-at-preserved c =
    let loop = c.loop-at in
    let glance_at = c.glance_at-g in
    let v = walked c.args.t.now loop.at
    loop.invariant.records glance_at.result loop.invariant.here c.loop-at-test.true
    glance_at.ensures in
    ordering_skips loop.invariant glance_at.result v
    (sym c.order.ensures ∙ c.in-None.is)

-- None
pub returns : goal.returns
returns c = ordering_end c.loop-at.invariant c.loop-at-test.false
