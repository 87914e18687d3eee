use native.Mathlib.Omega.{arith}
use mathlib.Core.Path.{sym, ◌∙◌}
use borrow.Author.Tests.{not-true, not-false}
use Rattle.orders.proofs.WalkLaws.{few_parts}
use Rattle.xliff.specs.Parse.{unit}
use Rattle.target_order.proofs.OrderLaws.{order_kept, position_unused, position_used}
use Rattle.target_order.proofs.new_order.Goals as goal

-- return order
pub returns-in-Some : goal.returns-in-Some
returns-in-Some c =
    let args = c.args in
    let t = args.t.now in
    λ b p a s. order_kept t args.place (unit t).parts args.n p.target s.target c.in-Some.order c.in-Some.is

-- return n
pub returns-then-not-is_order : goal.returns-then-not-is_order
returns-then-not-is_order c =
    let args = c.args in
    let t = args.t.now in
    λ b p a s.
    position_unused t args.place (unit t).parts args.n c.in_default.is p.target s.target
    (sym c.is_order.ensures ∙ not-true _ c.if-not-is_order.true-raw)

-- k as u16
pub overflow_cast-k : goal.overflow_cast-k
overflow_cast-k c =
    omega (arith, few_parts c.args.t.now c.requires, c.count_parts-k.ensures)

-- lowest_unused(t, k as u16)
pub lowest_unused-requires : goal.lowest_unused-requires
lowest_unused-requires c =
    let pre = c.requires in
    (pre, omega (arith, few_parts c.args.t.now pre, c.count_parts-k.ensures))

-- lowest_unused(t, k as u16)
pub returns : goal.returns
returns c =
    let args = c.args in
    let t = args.t.now in
    let is-order = c.is_order in
    λ b p a s.
    position_used t args.place (unit t).parts args.n c.in_default.is p.target s.target
    (sym is-order.ensures ∙ not-false _ c.if-not-is_order.false-raw) c.lowest_unused.result _
    c.lowest_unused.ensures c.count_parts-k.ensures
